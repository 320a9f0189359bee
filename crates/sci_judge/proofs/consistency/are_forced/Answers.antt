use Rattle.std.proofs.Common.{arith}
use Rattle.std.proofs.lemmas.{Bool.{cases_eq}, List.{get_or_default}}
use Rattle.sci_judge.proofs.consistency.are_forced.Goals as goal

pub loop-site-preserved : goal.loop-site-preserved
loop-site-preserved c = grind (arith, cases_eq, get_or_default)

pub returns : goal.returns
returns c = λ i d lt. c.loop-site.invariant i d (let past = c.loop-site-test.false in omega arith)
