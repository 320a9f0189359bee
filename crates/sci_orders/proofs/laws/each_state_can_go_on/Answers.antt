use Rattle.sci_orders.proofs.Quieting.{goes_on}
use Rattle.sci_orders.proofs.laws.each_state_can_go_on.Goals as goal

pub returns : goal.returns
returns c = goes_on
