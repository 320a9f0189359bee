use Rattle.std.proofs.Common.{◌≡◌, length, take}
use Rattle.sci_judge.specs.Logged.{AreLogged}
use Rattle.sci_judge.proofs.logging.log_with.Given as goal

-- the log of the operations so far
abbrev pub invariant-loop-access : goal.invariant-loop-access
invariant-loop-access l = record {
  logged : AreLogged l.sites (take l.access-index l.trace.accesses.items) l.used.items l.logs;
  lines : length l.last.value ≡ l.lines;
}
