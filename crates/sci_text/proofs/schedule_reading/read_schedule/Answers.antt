use Rattle.std.proofs.Common.{◌≡◌, ◌∙◌}
use Rattle.sci_text.specs.{Schedule.{schedule_text}, Tap.{has_failed, tapped}, ScheduleFault.{IsScheduleFault}}
use Rattle.sci_text.proofs.{Listings.{value_read}, Schedules.{schedules}, FirstFaults.{told_of_bytes}}
use Rattle.sci_text.proofs.schedule_reading.read_schedule.Goals as goal

pub returns-clause-only : goal.returns-clause-only
returns-clause-only g c = λ schedule good few known.
    let text : c.in_ok-input.input.items ≡ schedule_text schedule = rw known at c.in_ok-input.ensures.read.same in
    value_read schedules schedule c.deref.result.now c.schedule_of.result good (c.deref.ensures.value ∙ text) c.schedule_of.ensures.ok
    c.schedule_of.ensures.good c.schedule_of.ensures.fault

pub returns-clause-fault : goal.returns-clause-fault
returns-clause-fault g c =
    told_of_bytes IsScheduleFault (g.R.Read.remaining (tapped c.args.reader.now)) (has_failed c.read_input.new.reader) c.deref.result.now c.schedule_of.result
    c.in_ok-input.ensures.unfailed (rw c.deref.ensures.value c.in_ok-input.ensures.read) c.schedule_of.ensures.fault
