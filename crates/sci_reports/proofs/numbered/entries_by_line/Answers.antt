use Rattle.std.proofs.Common.{arith}
use Rattle.sci_reports.proofs.EntriesOn.{log_more}
use Rattle.sci_reports.proofs.numbered.entries_by_line.Goals as goal

pub loop-node-preserved : goal.loop-node-preserved
loop-node-preserved c = grind (arith, log_more)
