use Rattle.sci_history.specs.Audit.{AreFound}
use Rattle.sci_history.proofs.auditing.line_faults.Given as goal

-- what was found on the lines so far
abbrev pub invariant-loop-line : goal.invariant-loop-line
invariant-loop-line l = AreFound l.logs l.last l.line l.faults.items
