use Rattle.sci_history.specs.Audit.{is_version_missing}
use Rattle.sci_reports.proofs.FoundEntries.{NoneFails}
use Rattle.sci_reports.proofs.faulty.above_makers.Given as goal

abbrev pub invariant-loop-at : goal.invariant-loop-at
invariant-loop-at l = NoneFails (is_version_missing l.makers) l.entries l.at-index
