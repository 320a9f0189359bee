use Rattle.sci_core.proofs.Settling.Drains.{drained}
use Rattle.sci_core.proofs.progress.weightless_is_drained.Goals as goal

pub returns : goal.returns
returns c = drained
