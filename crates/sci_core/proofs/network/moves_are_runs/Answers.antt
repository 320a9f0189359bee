use Rattle.sci_core.proofs.ReachedLaws.{any_order, any_run, moves_history}
use Rattle.sci_core.proofs.network.moves_are_runs.Goals as goal

pub returns : goal.returns
returns c = record { history = moves_history; run = any_run; order = any_order }
