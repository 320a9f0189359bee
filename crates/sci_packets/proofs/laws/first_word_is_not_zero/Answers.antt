use Rattle.sci_packets.proofs.Whole.{above_zero}
use Rattle.sci_packets.proofs.laws.first_word_is_not_zero.Goals as goal

pub returns : goal.returns
returns c = above_zero
