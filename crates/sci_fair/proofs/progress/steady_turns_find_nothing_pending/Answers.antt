use Rattle.sci_fair.proofs.Standstill.{steady_none}
use Rattle.sci_fair.proofs.progress.steady_turns_find_nothing_pending.Goals as goal

pub returns : goal.returns
returns c = steady_none
