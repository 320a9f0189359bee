use Rattle.sci_core.proofs.FirstCome.TurnSteps.{step_turns}
use Rattle.sci_core.proofs.queue.the_first_is_served.Goals as goal

pub returns : goal.returns
returns c = step_turns
