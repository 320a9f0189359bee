use Rattle.sci_text.proofs.{Schedules.{schedules}, Listings.{no_fault}}
use Rattle.sci_text.proofs.schedule_laws.no_schedule_fault.Goals as goal

pub returns : goal.returns
returns c = no_fault schedules
