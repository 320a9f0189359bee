use Rattle.sci_core.proofs.ReachedLaws.{reached_coherent}
use Rattle.sci_core.proofs.laws.reached_states_are_coherent.Goals as goal

pub returns : goal.returns
returns c = reached_coherent
