use Rattle.sci_text.proofs.Schedules.{schedule_short}
use Rattle.sci_text.proofs.schedule_laws.schedules_are_short.Goals as goal

pub returns : goal.returns
returns c = schedule_short
