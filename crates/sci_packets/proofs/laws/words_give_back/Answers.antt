use Rattle.sci_packets.proofs.Whole.{back}
use Rattle.sci_packets.proofs.laws.words_give_back.Goals as goal

pub returns : goal.returns
returns c = back
