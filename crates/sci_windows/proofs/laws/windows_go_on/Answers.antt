use Rattle.sci_windows.proofs.Joins.{windows_go_on}
use Rattle.sci_windows.proofs.laws.windows_go_on.Goals as goal

pub returns : goal.returns
returns c = windows_go_on
