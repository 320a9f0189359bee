use Rattle.sci_core.proofs.Tidy.Queues.{queues_fit}
use Rattle.sci_core.proofs.progress.queues_are_bounded.Goals as goal

pub returns : goal.returns
returns c = queues_fit
