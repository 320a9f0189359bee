use Rattle.sci_text.proofs.{Schedules.{schedules}, Listings.{one_fault}}
use Rattle.sci_text.proofs.schedule_laws.one_schedule_fault.Goals as goal

pub returns : goal.returns
returns c = one_fault schedules
