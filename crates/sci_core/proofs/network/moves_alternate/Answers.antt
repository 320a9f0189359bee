use Rattle.sci_core.proofs.Tidy.Transactions.{moves_alternate}
use Rattle.sci_core.proofs.network.moves_alternate.Goals as goal

pub returns : goal.returns
returns c = moves_alternate
