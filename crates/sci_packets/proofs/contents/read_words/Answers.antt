use Rattle.std.proofs.{Common.{arith, inl, inr}, lemmas.{Bool.{cases_lt}, List.{get_or_past}}}
use Rattle.sci_packets.proofs.contents.read_words.Goals as goal

pub returns-clause-fits : goal.returns-clause-fits
returns-clause-fits c = grind (arith, cases_lt, get_or_past)
