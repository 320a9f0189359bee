use Rattle.sci_fair.proofs.SteadyLaws.{letter_taken_law}
use Rattle.sci_fair.proofs.steady.requests_are_taken.Goals as goal

pub returns : goal.returns
returns c = letter_taken_law
