-- A fault of the next line is the first of the text, since the lines before it are right.
use Rattle.std.proofs.Common.{arith}
use Rattle.std.proofs.lemmas.Bool.Decides.{nat_tests}
use Rattle.sci_text.proofs.{EventLines.{next_is_first}, schedule_events.ScheduleEvents.next_event.Goals.{in-Ok, in-Err}}
use Rattle.sci_text.proofs.schedule_events.ScheduleEvents.next_event.Goals as goal

pub returns-clause-fault : goal.returns-clause-fault
returns-clause-fault c = grind (arith, in-Ok, in-Err, nat_tests, next_is_first)
