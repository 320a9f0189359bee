use Rattle.sci_orders.proofs.Exactly.{runs_reached}
use Rattle.sci_orders.proofs.laws.each_run_is_reached.Goals as goal

pub returns : goal.returns
returns c = runs_reached
