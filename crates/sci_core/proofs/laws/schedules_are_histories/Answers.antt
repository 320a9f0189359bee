use Rattle.sci_core.proofs.ReachedLaws.{schedule_history}
use Rattle.sci_core.proofs.laws.schedules_are_histories.Goals as goal

pub returns : goal.returns
returns c = schedule_history
