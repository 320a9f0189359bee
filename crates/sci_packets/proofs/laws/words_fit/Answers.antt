use Rattle.sci_packets.proofs.WordLaws.{words_of-lt}
use Rattle.sci_packets.proofs.laws.words_fit.Goals as goal

pub returns : goal.returns
returns c = λ p i h. words_of-lt p h i
