use Rattle.sci_core.proofs.Settling.Drains.{can_drain}
use Rattle.sci_core.proofs.progress.packets_move_on.Goals as goal

pub returns : goal.returns
returns c = can_drain
