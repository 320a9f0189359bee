use Rattle.std.proofs.Common.{◌≡◌, length}
use Rattle.sci_history.specs.Audit.{is_version_twice}
use Rattle.sci_history.proofs.AuditFinds.{FailsLater, HasMarked}
use Rattle.sci_history.proofs.faults.marked_twice.Given as goal

-- the marked versions are those of the makers so far, and each came once
abbrev pub invariant-loop-entry : goal.invariant-loop-entry
invariant-loop-entry l = record {
  long : length l.marks.items ≡ l.makers;
  made : HasMarked l.marks.items l.entries l.entry-index l.makers;
  once : FailsLater is_version_twice l.entries l.entry-index;
}
