use Rattle.sci_core.proofs.ReachedLaws.{any_lawful}
use Rattle.sci_core.proofs.laws.logs_are_lawful.Goals as goal

pub returns : goal.returns
returns c = any_lawful
