use Rattle.sci_core.proofs.WellFormed.Ranges.{reached_entries}
use Rattle.sci_core.proofs.laws.entries_are_in_range.Goals as goal

pub returns : goal.returns
returns c = reached_entries
