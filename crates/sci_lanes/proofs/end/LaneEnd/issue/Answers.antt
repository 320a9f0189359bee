use Rattle.std.proofs.Common.{arith}
use Rattle.sci_lanes.proofs.end.LaneEnd.issue.Goals as goal

pub beat-requires-clause-beating : goal.beat-requires-clause-beating
beat-requires-clause-beating c = grind arith

pub returns-clause-issued : goal.returns-clause-issued
returns-clause-issued c = grind arith
