use Rattle.std.proofs.Common.{arith}
use Rattle.sci_packets.proofs.WordLaws.{counts_words}
use Rattle.sci_packets.proofs.words.word_count.Goals as goal

pub returns-in-Some-clause-packet : goal.returns-in-Some-clause-packet
returns-in-Some-clause-packet c = counts_words c.args.first 11 (grind arith)

pub returns-in_default-clause-packet : goal.returns-in_default-clause-packet
returns-in_default-clause-packet c = counts_words c.args.first 2 (grind arith)

pub returns-in_default-2-clause-packet : goal.returns-in_default-2-clause-packet
returns-in_default-2-clause-packet c = counts_words c.args.first 2 (grind arith)
