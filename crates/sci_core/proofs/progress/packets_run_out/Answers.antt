use Rattle.sci_core.proofs.Settling.Drains.{run_weighs}
use Rattle.sci_core.proofs.progress.packets_run_out.Goals as goal

pub returns : goal.returns
returns c = run_weighs
