use Rattle.sci_core.proofs.FirstCome.TurnSteps.{any_waiting}
use Rattle.sci_core.proofs.queue.members_wait_in_line.Goals as goal

pub returns : goal.returns
returns c = any_waiting
