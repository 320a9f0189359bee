use Rattle.std.proofs.lemmas.{Bool.Decides.{nat_tests}, Grind.{common_steps}, List.Folds.{list_any-append}}
use Rattle.std.proofs.Common.{arith}
use Rattle.sci_history.proofs.AuditFinds.{made_more}
use Rattle.sci_reports.proofs.FoundEntries.{no_numbered, ref_at, within_refs}
use Rattle.sci_reports.proofs.faulty.versions_made.Goals.{then-is_maker+in_ok-push, else-is_maker}
use Rattle.sci_reports.proofs.faulty.versions_made.Goals as goal

pub loop-at-preserved : goal.loop-at-preserved
loop-at-preserved c = grind (arith, made_more, within_refs, ref_at, list_any-append, no_numbered, common_steps, nat_tests, else-is_maker)
