use Rattle.sci_fair.proofs.EachRequest.{answer_law}
use Rattle.sci_fair.proofs.answers.answers_always_come.Goals as goal

pub returns : goal.returns
returns c = answer_law
