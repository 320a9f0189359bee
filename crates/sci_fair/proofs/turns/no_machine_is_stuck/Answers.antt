use Rattle.sci_fair.proofs.Stuck.{stuck_has_none}
use Rattle.sci_fair.proofs.turns.no_machine_is_stuck.Goals as goal

pub returns : goal.returns
returns c = stuck_has_none
