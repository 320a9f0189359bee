use Rattle.sci_core.proofs.Settling.GoingOn.{any_can_go_on}
use Rattle.sci_core.proofs.laws.reached_nodes_can_go_on.Goals as goal

pub returns : goal.returns
returns c = any_can_go_on
