use Rattle.sci_core.proofs.ReachedLaws.{schedule_log}
use Rattle.sci_core.proofs.laws.logs_are_done.Goals as goal

pub returns : goal.returns
returns c = schedule_log
