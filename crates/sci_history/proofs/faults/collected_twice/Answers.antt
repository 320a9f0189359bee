use Rattle.std.proofs.{Common.{arith}, lemmas.{Bool.Decides.{nat_tests}, Grind.{common_steps}}}
use Rattle.sci_history.proofs.AuditFinds.{entry_at, later_here, later_more, made_more}
use Rattle.sci_history.proofs.faults.collected_twice.Goals.{else-is_maker-via-then-is_maker+in_ok-insert+else-not-branch, else-is_maker-via-else-is_maker}
use Rattle.sci_history.proofs.faults.collected_twice.Goals as goal

pub returns-then-not-branch : goal.returns-then-not-branch
returns-then-not-branch c = grind (arith, entry_at, common_steps, later_here)

pub loop-entry-preserved : goal.loop-entry-preserved
loop-entry-preserved c = grind (arith, entry_at, common_steps, made_more, nat_tests, later_more)
