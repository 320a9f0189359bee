use Rattle.std.proofs.{Common.{arith}, lemmas.Bool.Decides.{nat_tests}}
use Rattle.sci_history.proofs.AuditFinds.{entry_at, later_here, later_more}
use Rattle.sci_history.proofs.faults.version_missing.Goals as goal

pub returns-then-entry-makers : goal.returns-then-entry-makers
returns-then-entry-makers c = grind (arith, entry_at, nat_tests, later_here)

pub loop-entry-preserved : goal.loop-entry-preserved
loop-entry-preserved c = grind (arith, entry_at, nat_tests, later_more)
