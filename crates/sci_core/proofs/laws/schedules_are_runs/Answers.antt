use Rattle.sci_core.proofs.ReachedLaws.{schedule_order, schedule_run}
use Rattle.sci_core.proofs.laws.schedules_are_runs.Goals as goal

pub returns-clause-run : goal.returns-clause-run
returns-clause-run c = schedule_run

pub returns-clause-order : goal.returns-clause-order
returns-clause-order c = schedule_order
