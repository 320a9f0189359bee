-- A reached state is well formed and tidy.
use Rattle.sci_core.proofs.{WellFormed.WellFormedSteps.{reached_well}, Tidy.TidyRuns.{reached_tidy}}
use Rattle.sci_core.proofs.machine.Machine.authority.Goals as goal

pub first_authority-requires-clause-well : goal.first_authority-requires-clause-well
first_authority-requires-clause-well c = reached_well c.self.inside.state c.self.invariant

pub first_authority-requires-clause-tidy : goal.first_authority-requires-clause-tidy
first_authority-requires-clause-tidy c = reached_tidy c.self.inside.state c.self.invariant
