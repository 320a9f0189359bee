use Rattle.sci_core.proofs.WellFormed.WellFormedSteps.{any_part}
use Rattle.sci_core.proofs.laws.reached_nodes_are_parts.Goals as goal

pub returns : goal.returns
returns c = any_part
