use Rattle.sci_core.proofs.WellFormed.WellFormedSteps.{any_well}
use Rattle.sci_core.proofs.laws.reached_states_are_well_formed.Goals as goal

pub returns : goal.returns
returns c = any_well
