use Rattle.sci_windows.proofs.Joins.{windows_meet}
use Rattle.sci_windows.proofs.laws.windows_meet.Goals as goal

pub returns : goal.returns
returns c = windows_meet
