use Rattle.sci_windows.proofs.Alarms.{taken_lawful}
use Rattle.sci_windows.proofs.laws.what_is_taken_is_lawful.Goals as goal

pub returns : goal.returns
returns c = taken_lawful
