use Rattle.sci_fair.proofs.SteadyLaws.{answer_law}
use Rattle.sci_fair.proofs.steady.answers_come.Goals as goal

pub returns : goal.returns
returns c = answer_law
