use Rattle.std.proofs.Common.{arith}
use Rattle.sci_judge.proofs.TraceLogs.{log_within}
use Rattle.sci_judge.proofs.consistency.by_log.Goals as goal

pub sequential_order-requires : goal.sequential_order-requires
sequential_order-requires c = grind (arith, log_within)
