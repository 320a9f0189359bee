use Rattle.sci_core.proofs.WellFormed.Ranges.{reached_contents}
use Rattle.sci_core.proofs.laws.contents_are_in_range.Goals as goal

pub returns : goal.returns
returns c = reached_contents
