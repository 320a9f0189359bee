use Rattle.sci_history.proofs.Lawfulness.{lawful_line}
use Rattle.sci_history.proofs.laws.history_is_lawful.Goals as goal

pub returns : goal.returns
returns c = lawful_line
