-- Each batch is counted behind those before it.
use Rattle.std.proofs.Common.{◌≤◌, ◌+◌, arith, length, List, ℕ, subst}
use Rattle.std.proofs.lemmas.Result.{IfErr-at_err, IfOk-at_ok, err_from_is_err_and}
use Rattle.sci_words.specs.declared.operation.Op.{Op}
use Rattle.sci_outcomes.specs.{Rows.{AreCrowded}, Trials.{IsCountOf}, declared.trials.TheConstants.{MAX_KEPT}}
use Rattle.sci_outcomes.proofs.Shares.{counted_both, crowded_below, given_up_below, given_up_by}
use Rattle.sci_outcomes.proofs.trials.counted_in_batches.Goals as goal

pub returns-in_err-counted_by_threads-clause-given_up : goal.returns-in_err-counted_by_threads-clause-given_up
returns-in_err-counted_by_threads-clause-given_up g c =
    let litmus = c.args.litmus in
    let end = c.batches.start + c.min.result in
    let why = IfErr-at_err _ c.in_err-counted_by_threads.was c.counted_by_threads.ensures.1 in
    let e = err_from_is_err_and c.from_residual.result c.from_residual.ensures.1 in
    let below : end ≤ c.args.all.end = grind arith in
    rw e.1 (λ up. given_up_below litmus.script.now litmus.turns litmus.issuing end c.args.all.end below (why (given_up_by _ _ e.2 up)))

pub returns-then-is_crowded-clause-crowded : goal.returns-then-is_crowded-clause-crowded
returns-then-is_crowded-clause-crowded g c = λ _.
    let litmus = c.args.litmus in
    let Count = IsCountOf litmus.script.now litmus.turns litmus.issuing in
    let start = c.batches.start in
    let end = start + c.min.result in
    let batch = IfOk-at_ok (Count start end) c.in_ok-counted_by_threads.was c.counted_by_threads.ensures.0 in
    let below : end ≤ c.args.all.end = grind arith in
    let count = counted_both litmus.script.now litmus.turns litmus.issuing 0 start end c.batches.histogram c.in_ok-counted_by_threads.field-0
    c.absorb.new.self c.batches.invariant.counted batch c.in_ok-absorb.ensures in
    crowded_below litmus.script.now litmus.turns litmus.issuing end c.args.all.end c.absorb.new.self below count
    (λ seen counted. subst (λ (ops : List (ℕ × Op)). AreCrowded MAX_KEPT (length ops) seen) c.operations.ensures.value
    (c.is_crowded.ensures.beyond c.if-is_crowded.true seen counted))

pub batches-preserved : goal.batches-preserved
batches-preserved g c = grind (arith, counted_both)
