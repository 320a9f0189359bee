use Rattle.sci_core.proofs.ReachedLaws.{any_effects}
use Rattle.sci_core.proofs.laws.operations_take_effect.Goals as goal

pub returns : goal.returns
returns c = any_effects
