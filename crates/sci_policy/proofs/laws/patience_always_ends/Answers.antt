use Rattle.std.proofs.Common.{arith}
use Rattle.sci_policy.proofs.Patience.{draining_sets, due_sets, ended, patience_counts}
use Rattle.sci_policy.proofs.laws.patience_always_ends.Goals as goal

pub returns : goal.returns
returns c = grind (arith, patience_counts, draining_sets, ended, due_sets)
