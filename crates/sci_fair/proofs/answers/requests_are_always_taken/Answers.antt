use Rattle.sci_fair.proofs.EachRequest.{taken_law}
use Rattle.sci_fair.proofs.answers.requests_are_always_taken.Goals as goal

pub returns : goal.returns
returns c = taken_law
