use Rattle.sci_judge.proofs.Timely.{AreTimelyTo}
use Rattle.sci_judge.proofs.times.are_timely.Given as goal

-- none so far has a version that is too low
abbrev pub invariant-loop-place : goal.invariant-loop-place
invariant-loop-place l = AreTimelyTo l.accesses l.versions l.place
