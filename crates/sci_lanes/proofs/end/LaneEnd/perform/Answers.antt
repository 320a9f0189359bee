use Rattle.std.proofs.Common.{arith}
use Rattle.sci_lanes.proofs.end.LaneEnd.perform.Goals as goal

pub beat-requires-clause-beating : goal.beat-requires-clause-beating
beat-requires-clause-beating c = grind arith

pub returns-clause-performed : goal.returns-clause-performed
returns-clause-performed c = grind arith
