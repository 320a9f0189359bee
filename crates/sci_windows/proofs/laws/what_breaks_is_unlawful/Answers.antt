use Rattle.sci_windows.proofs.Alarms.{no_false_alarm}
use Rattle.sci_windows.proofs.laws.what_breaks_is_unlawful.Goals as goal

pub returns : goal.returns
returns c = no_false_alarm
