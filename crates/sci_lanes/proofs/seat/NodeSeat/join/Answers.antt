use Rattle.std.proofs.Common.{arith}
use Rattle.sci_lanes.proofs.Gathering.{joining}
use Rattle.sci_lanes.proofs.seat.NodeSeat.join.Goals as goal

pub join_seat-requires : goal.join_seat-requires
join_seat-requires c = grind (arith, joining)
