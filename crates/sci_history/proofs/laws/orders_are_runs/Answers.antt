use Rattle.sci_history.proofs.SequentialRuns.{order_is_run}
use Rattle.sci_history.proofs.laws.orders_are_runs.Goals as goal

pub returns : goal.returns
returns c = order_is_run
