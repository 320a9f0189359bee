-- A reached state is well formed and tidy.
use Rattle.sci_core.proofs.{WellFormed.WellFormedSteps.{reached_well}, Tidy.TidyRuns.{reached_tidy}}
use Rattle.sci_core.proofs.machine.Machine.last_contents.Goals as goal

pub last_at-requires-clause-well : goal.last_at-requires-clause-well
last_at-requires-clause-well c = reached_well c.self.inside.state c.self.invariant

pub last_at-requires-clause-tidy : goal.last_at-requires-clause-tidy
last_at-requires-clause-tidy c = reached_tidy c.self.inside.state c.self.invariant
