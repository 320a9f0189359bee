use Rattle.sci_text.proofs.{Schedules.{schedules}, Listings.{one_value}}
use Rattle.sci_text.proofs.schedule_laws.one_schedule.Goals as goal

pub returns : goal.returns
returns c = one_value schedules
