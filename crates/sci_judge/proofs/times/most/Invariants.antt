use Rattle.sci_judge.proofs.Timely.{IsMostTo}
use Rattle.sci_judge.proofs.times.most.Given as goal

-- the greatest versions of the fronts so far
abbrev pub invariant-loop-ended : goal.invariant-loop-ended
invariant-loop-ended l = IsMostTo l.ends l.most.items l.ended-index l.version
