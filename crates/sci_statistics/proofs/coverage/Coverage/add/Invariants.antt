use Rattle.sci_statistics.proofs.Counts.{Adds}
use Rattle.sci_statistics.proofs.coverage.Coverage.add.Given as goal

-- the places so far are added, and the others not
abbrev pub invariant-loop-place : goal.invariant-loop-place
invariant-loop-place l = Adds l.fn.self.counts l.other.counts l.self.counts l.place
