use Rattle.std.proofs.Common.{ℕ, List, ◌∷◌, ◌++◌, take, ap, ◌∙◌, arith}
use Rattle.sci_packets.proofs.WordLaws.{contents_written}
use Rattle.sci_packets.proofs.contents.write_contents_words.Goals as goal

pub returns-clause-words : goal.returns-clause-words
returns-clause-words c = grind (arith, contents_written)
