use Rattle.sci_fair.proofs.Few.{changes_few}
use Rattle.sci_fair.proofs.rank.real_changes_are_few.Goals as goal

pub returns : goal.returns
returns c = changes_few
