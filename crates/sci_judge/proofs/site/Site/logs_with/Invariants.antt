use Rattle.std.proofs.Common.{take}
use Rattle.sci_judge.specs.Stamped.{AreStamped}
use Rattle.sci_judge.proofs.site.Site.logs_with.Given as goal

-- the logs of the operations so far
abbrev pub invariant-loop-place : goal.invariant-loop-place
invariant-loop-place l = AreStamped (take l.place l.self.accesses.now) l.versions l.logs
