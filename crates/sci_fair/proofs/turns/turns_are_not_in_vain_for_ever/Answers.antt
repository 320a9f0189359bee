use Rattle.sci_fair.proofs.Vain.{vain_has_none}
use Rattle.sci_fair.proofs.turns.turns_are_not_in_vain_for_ever.Goals as goal

pub returns : goal.returns
returns c = vain_has_none
