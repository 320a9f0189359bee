-- One level more, twice.
use Rattle.std.proofs.Common.{◌+◌, ℕ, List, map, refl, sym, subst, arith}
use Rattle.sci_orders.specs.declared.standing.Standing.{Standing}
use Rattle.sci_orders.proofs.{LevelSteps.{found_fit, found_more}, Refusing.{raised, too_many}}
use Rattle.sci_orders.proofs.orders.Orders.next_two.Goals.{After-deref}
use Rattle.sci_orders.specs.{Eager.{AreFoundIn, AreTooMany}, Positions.{lists_of, position_of}}
use Rattle.sci_orders.proofs.orders.Orders.next_two.Goals as goal

pub next_level-requires : goal.next_level-requires
next_level-requires c =
    found_fit c.args.lines (lists_of c.args.self.now.operations.now) c.args.self.now.window c.requires.found.0 (map position_of c.args.level.now)
    c.requires.within c.requires.found.1

half : (c : After-deref) (count : ℕ)
    → AreFoundIn c.args.lines (lists_of c.args.self.now.operations.now) c.args.self.now.window count (map position_of c.args.level.now)
    → AreFoundIn c.args.lines (lists_of c.args.self.now.operations.now) c.args.self.now.window (count + 1) (map position_of c.deref.result.now)
half c count so =
    let operations = lists_of c.args.self.now.operations.now in
    subst (λ (ss : List Standing). AreFoundIn c.args.lines operations c.args.self.now.window (count + 1) (map position_of ss)) (sym c.deref.ensures.value)
    (found_more c.args.lines operations c.args.self.now.window count (count + 1) (map position_of c.args.level.now) (map position_of c.in_ok-half.half.items)
    refl so c.in_ok-half.ensures.steps)

pub next_level-requires-2 : goal.next_level-requires-2
next_level-requires-2 c =
    let found = c.requires.found in
    found_fit c.args.lines (lists_of c.args.self.now.operations.now) c.args.self.now.window (found.0 + 1) (map position_of c.deref.result.now)
    c.requires.within (half (goal.at.next_level-requires-2 c).After-deref found.0 found.1)

pub returns-in_err-half-clause-many : goal.returns-in_err-half-clause-many
returns-in_err-half-clause-many c =
    let found = c.requires.found in
    let operations = lists_of c.args.self.now.operations.now in
    raised (AreTooMany c.args.lines operations c.args.self.now.window) _ c.in_err-half.field-0.0 c.from_residual.ensures.1
    (λ is. too_many c.args.lines operations c.args.self.now.window found.0 (map position_of c.args.level.now) found.1 (c.in_err-half.ensures.many is))

pub returns-in_err-next-clause-many : goal.returns-in_err-next-clause-many
returns-in_err-next-clause-many c =
    let found = c.requires.found in
    let operations = lists_of c.args.self.now.operations.now in
    let so = half (goal.at.returns-in_err-next-clause-many c).After-deref found.0 found.1 in
    raised (AreTooMany c.args.lines operations c.args.self.now.window) _ c.in_err-next.field-0.0 c.from_residual-in_err-next.ensures.1
    (λ is. too_many c.args.lines operations c.args.self.now.window (found.0 + 1) (map position_of c.deref.result.now) so (c.in_err-next.ensures.many is))

pub returns-clause-found : goal.returns-clause-found
returns-clause-found c = λ count from.
    let operations = lists_of c.args.self.now.operations.now in
    let so = half (goal.at.returns-clause-found c).After-deref count from in (
      subst (λ (ss : List Standing). AreFoundIn c.args.lines operations c.args.self.now.window (count + 1) (map position_of ss)) c.deref.ensures.value so,
      found_more c.args.lines operations c.args.self.now.window (count + 1) (count + 2) (map position_of c.deref.result.now)
          (map position_of c.in_ok-next.next.items) (omega arith) so c.in_ok-next.ensures.steps,
    )
