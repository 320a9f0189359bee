use Rattle.sci_history.specs.Audit.{is_version_missing}
use Rattle.sci_history.proofs.AuditFinds.{FailsLater}
use Rattle.sci_history.proofs.faults.version_missing.Given as goal

abbrev pub invariant-loop-entry : goal.invariant-loop-entry
invariant-loop-entry l = FailsLater (is_version_missing l.makers) l.entries l.entry-index
