use Rattle.sci_packets.proofs.Whole.{one_by_words}
use Rattle.sci_packets.proofs.laws.one_packet_by_words.Goals as goal

pub returns : goal.returns
returns c = one_by_words
