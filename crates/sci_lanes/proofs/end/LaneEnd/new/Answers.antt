use Rattle.std.proofs.Common.{arith}
use Rattle.sci_lanes.proofs.end.LaneEnd.new.Goals as goal

pub invariant_of-result : goal.invariant_of-result
invariant_of-result c = grind arith
