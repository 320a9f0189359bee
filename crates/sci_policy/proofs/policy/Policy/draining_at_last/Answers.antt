use Rattle.std.proofs.Common.{arith}
use Rattle.sci_policy.proofs.Marks.{in_set, set_same}
use Rattle.sci_policy.proofs.policy.Policy.draining_at_last.Goals as goal

pub returns : goal.returns
returns c = grind (arith, set_same, in_set)
