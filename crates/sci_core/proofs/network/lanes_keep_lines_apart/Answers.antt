use Rattle.sci_core.proofs.NetworkLaws.{one_about}
use Rattle.sci_core.proofs.network.lanes_keep_lines_apart.Goals as goal

pub returns : goal.returns
returns c = one_about
