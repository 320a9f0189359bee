use Rattle.sci_packets.proofs.WordLaws.{word_bytes-words_of}
use Rattle.sci_packets.proofs.laws.words_are_the_bytes.Goals as goal

pub returns : goal.returns
returns c = word_bytes-words_of
