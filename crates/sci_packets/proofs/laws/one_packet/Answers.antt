use Rattle.sci_packets.proofs.Whole.{one}
use Rattle.sci_packets.proofs.laws.one_packet.Goals as goal

pub returns : goal.returns
returns c = one
