use Rattle.sci_core.proofs.History.InTurn.{moves_logged_in_turn}
use Rattle.sci_core.proofs.network.moves_log_in_order.Goals as goal

pub returns : goal.returns
returns c = moves_logged_in_turn
