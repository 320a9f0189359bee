use Rattle.sci_packets.proofs.WordLaws.{count_of}
use Rattle.sci_packets.proofs.laws.word_count.Goals as goal

pub returns : goal.returns
returns c = count_of
