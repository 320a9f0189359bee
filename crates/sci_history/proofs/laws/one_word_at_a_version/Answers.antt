use Rattle.sci_history.proofs.Consequences.{one_word}
use Rattle.sci_history.proofs.laws.one_word_at_a_version.Goals as goal

pub returns : goal.returns
returns c = one_word
