use Rattle.std.proofs.Common.{◌≡◌, length}
use Rattle.sci_text.specs.ScheduleEvents.{AreBefore}
use Rattle.sci_text.proofs.schedule_lines.schedule_of.Given as goal

-- the events so far stand before what is left of the input
abbrev pub invariant-loop-events : goal.invariant-loop-events
invariant-loop-events l = record { before : AreBefore l.events.items l.lines; text : l.lines.text ≡ l.input }

abbrev pub decreases-loop-events : goal.decreases-loop-events
decreases-loop-events l = length l.lines.rest
