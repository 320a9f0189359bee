use Rattle.sci_orders.proofs.Exactly.{reached_runs}
use Rattle.sci_orders.proofs.laws.each_position_has_a_run.Goals as goal

pub returns : goal.returns
returns c = reached_runs
