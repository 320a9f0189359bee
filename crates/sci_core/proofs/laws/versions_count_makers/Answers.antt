use Rattle.sci_core.proofs.WellFormed.Ranges.{last_counts}
use Rattle.sci_core.proofs.laws.versions_count_makers.Goals as goal

pub returns : goal.returns
returns c = last_counts
