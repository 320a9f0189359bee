use Rattle.sci_fair.proofs.Waiting.{waiting_changes}
use Rattle.sci_fair.proofs.progress.waiting_operations_lose_nothing.Goals as goal

pub returns : goal.returns
returns c = waiting_changes
