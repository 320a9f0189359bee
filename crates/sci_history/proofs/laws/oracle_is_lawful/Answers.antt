use Rattle.sci_history.proofs.Oracles.{oracle-lawful}
use Rattle.sci_history.proofs.laws.oracle_is_lawful.Goals as goal

pub returns : goal.returns
returns c = oracle-lawful
