use Rattle.sci_packets.proofs.Whole.{no_prefix}
use Rattle.sci_packets.proofs.laws.no_proper_prefix.Goals as goal

pub returns : goal.returns
returns c = no_prefix
