-- One step back.
use Rattle.std.proofs.Common.{◌≡◌, ◌-◌, ◌+◌, ℕ, suc, List, length, map, get_or, reverse, sym, ap, subst, ◌∙◌, arith}
use Rattle.std.proofs.lemmas.List.{length_push}
use Rattle.sci_words.specs.declared.event.Event.{Event}
use Rattle.sci_orders.proofs.{LevelSteps.{found_fit}, Ways.{holds_at, leads_more, level_at, step_before}}
use Rattle.sci_orders.proofs.orders.Orders.order_through.Goals.{After-deref}
use Rattle.sci_orders.specs.{Eager.{AreFoundIn, IsFoundIn}, Positions.{lists_of, position_of}}
use Rattle.sci_orders.specs.{Ways.{IsStepBy, LeadsTo}, declared.standing.Standing.{Standing}}
use Rattle.sci_orders.proofs.orders.Orders.order_through.Goals as goal

-- the level before
level : (c : After-deref) → AreFoundIn c.args.extent.lines (lists_of c.args.self.now.operations.now) c.args.self.now.window
    (length c.args.levels.now - 1 - c.loop-taken.taken) (map position_of c.deref.result.now)
level c =
    let low = c.loop-taken-test.true in
    level_at c.args.extent.lines (lists_of c.args.self.now.operations.now) c.args.self.now.window c.args.levels.now
    (length c.args.levels.now - 1 - c.loop-taken.taken) c.index-levels-levels.result c.deref.result.now (omega arith) c.index-levels-levels.is
    c.deref.ensures.value c.requires.levels

pub back_from-requires-clause-fits : goal.back_from-requires-clause-fits
back_from-requires-clause-fits c =
    found_fit c.args.extent.lines (lists_of c.args.self.now.operations.now) c.args.self.now.window (length c.args.levels.now - 1 - c.loop-taken.taken)
    (map position_of c.deref.result.now) c.requires.within (level (goal.at.back_from-requires-clause-fits c).After-deref)

pub back_from-requires-clause-some : goal.back_from-requires-clause-some
back_from-requires-clause-some c =
    let operations = lists_of c.args.self.now.operations.now in
    let count = length c.args.levels.now - 1 - c.loop-taken.taken in
    let low = c.loop-taken-test.true in
    let next : length c.args.levels.now - c.loop-taken.taken ≡ suc count = omega arith in
    step_before c.args.extent.lines operations c.args.self.now.window count (map position_of c.deref.result.now) (position_of c.loop-taken.at.now)
    (level (goal.at.back_from-requires-clause-some c).After-deref)
    (subst (λ (k : ℕ). IsFoundIn c.args.extent.lines operations c.args.self.now.window k (position_of c.loop-taken.at.now)) next
    c.loop-taken.invariant.reached)

pub loop-taken-preserved : goal.loop-taken-preserved
loop-taken-preserved c =
    let operations = lists_of c.args.self.now.operations.now in
    let window = c.args.self.now.window in
    let count = length c.args.levels.now - 1 - c.loop-taken.taken in
    let low = c.loop-taken-test.true in
    let back = c.in_ok-back.back in
    let at = c.index-at.result.now in
    let here : at ≡ get_or c.deref.result.now back.place at =
    c.index-at.ensures ∙ ap (λ (ss : List Standing). get_or ss back.place at) (sym c.deref.ensures.value) in
    let step = subst (λ (s : Standing). IsStepBy operations window (position_of s) (position_of c.loop-taken.at.now) back.event) (sym here)
    (c.in_ok-back.ensures.1 at) in
    let more = ap (λ (es : List Event). length es) c.in_ok-push.ensures.items ∙ length_push c.loop-taken.order.items back.event in
    let were = c.loop-taken.invariant.long in
    let so = level (goal.at.loop-taken-preserved c).After-deref in
    let less : count ≡ length c.args.levels.now - (c.loop-taken.taken + 1) = omega arith in
    record {
      leads = subst (λ (es : List Event). LeadsTo operations window (position_of at) (reverse es) (position_of c.args.last.now))
          (sym c.in_ok-push.ensures.items)
          (leads_more operations window (position_of at) (position_of c.loop-taken.at.now) (position_of c.args.last.now) back.event
          c.loop-taken.order.items step c.loop-taken.invariant.leads);
      long = omega arith;
      reached = subst (λ (k : ℕ). IsFoundIn c.args.extent.lines operations window k (position_of at)) less
          (holds_at (IsFoundIn c.args.extent.lines operations window count) c.deref.result.now back.place at c.in_ok-back.ensures.0 here so.each);
    }
