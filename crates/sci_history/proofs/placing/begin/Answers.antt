use Rattle.std.proofs.Common.{List, ℕ, length, refl, ap, arith}
use Rattle.std.proofs.lemmas.List.{get_or_default, length-set}
use Rattle.sci_history.proofs.PlaceSteps.{counts_long, counts_read, state_more}
use Rattle.sci_history.proofs.placing.begin.Goals as goal

pub index-requires : goal.index-requires
index-requires c =
    let long = counts_long c.args.loads.now in
    let read = counts_read c.args.loads.now c.loop-line.line _ c.index-loads-line.result c.index-loads-line.result.items c.loop-line-test.true
    c.index-loads-line.is refl in
    let counts = (c.requires.orderable.1.counts c.loop-line.line (omega arith)).long in
    let same = ap (λ (cs : List ℕ). length cs) read in
    omega arith

pub loop-line-preserved : goal.loop-line-preserved
loop-line-preserved c = grind (arith, counts_long, counts_read, get_or_default, length-set, state_more)

pub returns : goal.returns
returns c = λ line below. c.loop-line.invariant.states line (omega arith)
