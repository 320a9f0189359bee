use Rattle.sci_core.proofs.FirstCome.TurnSteps.{all_turns}
use Rattle.sci_core.proofs.queue.first_come_first_served.Goals as goal

pub returns : goal.returns
returns c = all_turns
