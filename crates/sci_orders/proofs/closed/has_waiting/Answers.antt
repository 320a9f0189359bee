-- Each operation that is issued is looked at.
use Rattle.std.proofs.{Common.{◌≡◌, ◌==◌, ◌&&◌, Bool, true, length, get_or, sym, ap, ◌∙◌, arith}, lemmas.{Bool.{eq-eqb}, List.{get_or_default}}}
use Rattle.sci_orders.proofs.Places.{any_found, none_any}
use Rattle.sci_orders.specs.{Eager.{waits_on}, Positions.{is_waiting, no_operation}, declared.standing.Answer.TheVariants.{Stored}}
use Rattle.sci_orders.proofs.closed.has_waiting.Goals as goal

pub returns-then-from-line : goal.returns-then-from-line
returns-then-from-line c =
    let as_ = c.args.answers.now in
    let own = c.args.own.now in
    let j = c.loop-j.j in
    let waits : is_waiting (get_or as_ j Stored) ≡ true =
    ap is_waiting (get_or_default as_ j Stored _ c.loop-j-test.true) ∙ (sym c.is_waiting.ensures ∙ c.if-is_waiting.true) in
    let on : ((get_or own j no_operation).line == c.args.line) ≡ true =
    eq-eqb (get_or own j no_operation).line c.args.line (sym c.from.ensures ∙ c.if-from-line.true) in
    sym (any_found (waits_on own as_ c.args.line) (length as_) j c.loop-j-test.true
    (ap (λ (b : Bool). b && ((get_or own j no_operation).line == c.args.line)) waits ∙ on))

pub returns : goal.returns
returns c = grind (arith, none_any)
