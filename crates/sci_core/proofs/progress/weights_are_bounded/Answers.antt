use Rattle.sci_core.proofs.Tidy.Burdens.{light}
use Rattle.sci_core.proofs.progress.weights_are_bounded.Goals as goal

pub returns : goal.returns
returns c = light
