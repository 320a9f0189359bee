use Rattle.sci_core.proofs.Settling.Drains.{moves_weigh}
use Rattle.sci_core.proofs.network.moves_run_out.Goals as goal

pub returns : goal.returns
returns c = moves_weigh
