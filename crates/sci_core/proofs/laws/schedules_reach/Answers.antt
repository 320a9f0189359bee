use Rattle.sci_core.proofs.{Tidy.TidyRuns.{run_reachable, run_reached}, WellFormed.WellFormedSteps.{reachable}}
use Rattle.sci_core.proofs.laws.schedules_reach.Goals as goal

pub returns : goal.returns
returns c = record { any = run_reachable; within = run_reached; reachable = λ core reached. reachable core reached }
