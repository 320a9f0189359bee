use Rattle.sci_core.proofs.FirstCome.TurnSteps.{moves_in_turn}
use Rattle.sci_core.proofs.network.moves_are_in_turn.Goals as goal

pub returns : goal.returns
returns c = moves_in_turn
