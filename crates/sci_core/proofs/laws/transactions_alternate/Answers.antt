use Rattle.sci_core.proofs.Tidy.Transactions.{runs_alternate}
use Rattle.sci_core.proofs.laws.transactions_alternate.Goals as goal

pub returns : goal.returns
returns c = runs_alternate
