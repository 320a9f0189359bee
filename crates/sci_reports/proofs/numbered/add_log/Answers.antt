use Rattle.std.proofs.{Common.{arith}, lemmas.List.{length-set}}
use Rattle.sci_history.proofs.AuditFinds.{no_entry}
use Rattle.sci_reports.proofs.EntriesOn.{list_more}
use Rattle.sci_reports.proofs.numbered.add_log.Goals as goal

pub loop-entry-preserved : goal.loop-entry-preserved
loop-entry-preserved c = grind (arith, no_entry, length-set, list_more)
