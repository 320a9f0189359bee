-- Each operation of the node is looked at.
use Rattle.std.proofs.{Common.{◌≡◌, ◌==◌, ◌&&◌, Bool, true, false, get_or, sym, ap, ◌∙◌}, lemmas.{Bool.{eq-eqb, ne_eqb}, List.{get_or_default}}}
use Rattle.sci_orders.proofs.{Passing.{blocked, passed_no, passed_yes}, standing.may_issue.Goals.{then-is_waiting+else-own-j, else-is_waiting}}
use Rattle.sci_orders.specs.{Positions.{blocks, is_waiting, no_operation}, declared.standing.Answer.TheVariants.{Stored}}
use Rattle.sci_orders.proofs.standing.may_issue.Goals as goal

pub returns-then-own-j : goal.returns-then-own-j
returns-then-own-j c =
    let as_ = c.args.answers.now in
    let own = c.args.own.now in
    let i = c.args.i in
    let j = c.loop-j.j in
    let waits : is_waiting (get_or as_ j Stored) ≡ true =
    ap is_waiting (get_or_default as_ j Stored _ c.loop-j-test.true) ∙ (sym c.is_waiting.ensures ∙ c.if-is_waiting.true) in
    let same : ((get_or own j no_operation).line == (get_or own i no_operation).line) ≡ true =
    eq-eqb (get_or own j no_operation).line (get_or own i no_operation).line c.if-own-j.true in
    let is : blocks own as_ i j ≡ true = ap (λ (b : Bool). b && ((get_or own j no_operation).line == (get_or own i no_operation).line)) waits ∙ same in
    blocked own as_ c.args.window i j c.if-answers-i.false c.loop-j-test.true is

pub loop-j-preserved : goal.loop-j-preserved
loop-j-preserved c =
    let as_ = c.args.answers.now in
    let own = c.args.own.now in
    let i = c.args.i in
    let j = c.loop-j.j in
    elim c.if-is_waiting.branch [
      | then-is_waiting+else-own-j w ↦
          let waits : is_waiting (get_or as_ j Stored) ≡ true =
          ap is_waiting (get_or_default as_ j Stored _ c.loop-j-test.true) ∙ (sym c.is_waiting.ensures ∙ w.if-is_waiting.true) in
          let other : ((get_or own j no_operation).line == (get_or own i no_operation).line) ≡ false =
          ne_eqb (get_or own j no_operation).line (get_or own i no_operation).line w.if-own-j.false in
          let free : blocks own as_ i j ≡ false =
          ap (λ (b : Bool). b && ((get_or own j no_operation).line == (get_or own i no_operation).line)) waits ∙ other in
          rw w.waiting-is (passed_yes own as_ i j c.loop-j.waiting c.loop-j.invariant c.loop-j-test.true waits free)
      | else-is_waiting w ↦
          let waits : is_waiting (get_or as_ j Stored) ≡ false =
          ap is_waiting (get_or_default as_ j Stored _ c.loop-j-test.true) ∙ (sym c.is_waiting.ensures ∙ w.if-is_waiting.false) in
          rw w.waiting-is (passed_no own as_ i j c.loop-j.waiting c.loop-j.invariant c.loop-j-test.true waits)
    ]
