use Rattle.sci_core.proofs.ReachedLaws.{any_accepted}
use Rattle.sci_core.proofs.laws.answers_are_accepted.Goals as goal

pub returns : goal.returns
returns c = any_accepted
