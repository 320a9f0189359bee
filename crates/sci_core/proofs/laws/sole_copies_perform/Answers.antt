use Rattle.sci_core.proofs.History.Pendings.{sole_performs}
use Rattle.sci_core.proofs.laws.sole_copies_perform.Goals as goal

pub returns : goal.returns
returns c = sole_performs
