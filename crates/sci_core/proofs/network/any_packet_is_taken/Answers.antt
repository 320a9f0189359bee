use Rattle.sci_core.proofs.NetworkLaws.{accepts_any, serves_any}
use Rattle.sci_core.proofs.network.any_packet_is_taken.Goals as goal

pub returns : goal.returns
returns c = record { accepted = accepts_any; served = serves_any }
