use Rattle.std.proofs.Common.{arith}
use Rattle.sci_packets.proofs.{Packets.{packet_made}, WordLaws.{length-words_of, words_written}}
use Rattle.sci_packets.proofs.words.to_words.Goals as goal

pub returns-clause-words : goal.returns-clause-words
returns-clause-words c = grind (arith, words_written)

pub returns-clause-length : goal.returns-clause-length
returns-clause-length c = grind (arith, packet_made, length-words_of)
