use Rattle.sci_core.proofs.{NetworkLaws.{moves_reachable}, WellFormed.WellFormedSteps.{reachable_moved}}
use Rattle.sci_core.proofs.network.moves_reach.Goals as goal

pub returns : goal.returns
returns c = record { any = moves_reachable; more = reachable_moved }
