use Rattle.sci_fair.proofs.Stretches.{rests_before_long}
use Rattle.sci_fair.proofs.progress.operations_are_performed.Goals as goal

pub returns : goal.returns
returns c = rests_before_long
