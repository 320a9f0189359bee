use Rattle.std.proofs.Common.{◌≡◌, ◌++◌, take}
use Rattle.sci_text.specs.Schedule.{event_lines}
use Rattle.sci_text.proofs.schedule_writing.push_events.Given as goal

-- the events so far
abbrev pub invariant-loop-event : goal.invariant-loop-event
invariant-loop-event l = l.out.items ≡ l.fn.out.items ++ event_lines (take l.event-index l.events)
