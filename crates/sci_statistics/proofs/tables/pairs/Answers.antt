use Rattle.sci_statistics.specs.Transitions.{table}
use Rattle.sci_statistics.proofs.Kept.{from_nothing}
use Rattle.sci_statistics.proofs.tables.pairs.Goals as goal

pub returns : goal.returns
unfolding table
returns c = from_nothing _ _ _ c.new-found.ensures.items c.in_ok-push_pairs.ensures
