-- Each operation is looked at.
use Rattle.std.proofs.{Common.{◌≡◌, ◌==◌, ◌&&◌, not, Bool, true, length, get_or, sym, ap, ◌∙◌, arith}, lemmas.Bool.{eq-eqb, le-ltb}}
use Rattle.sci_orders.proofs.Places.{any_found, none_any}
use Rattle.sci_orders.specs.{Eager.{comes_to}, Positions.{no_operation}}
use Rattle.sci_orders.proofs.closed.has_to_come.Goals as goal

pub returns-then-from-line : goal.returns-then-from-line
returns-then-from-line c =
    let own = c.args.own.now in
    let i = c.loop-i.i in
    let late = le-ltb i c.args.issued c.if-issued-i.true in
    let on : ((get_or own i no_operation).line == c.args.line) ≡ true =
    eq-eqb (get_or own i no_operation).line c.args.line (sym c.from.ensures ∙ c.if-from-line.true) in
    sym (any_found (comes_to own c.args.issued c.args.line) (length own) i c.loop-i-test.true
    (ap (λ (b : Bool). not b && ((get_or own i no_operation).line == c.args.line)) late ∙ on))

pub returns : goal.returns
returns c = grind (arith, none_any)
