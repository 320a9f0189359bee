use Rattle.sci_history.proofs.Consequences.{store_seen}
use Rattle.sci_history.proofs.laws.stores_are_seen.Goals as goal

pub returns : goal.returns
returns c = store_seen
