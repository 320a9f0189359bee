use Rattle.std.proofs.Common.{◌≡◌, take}
use Rattle.sci_text.specs.Schedule.{IsSchedule}
use Rattle.sci_allowed.proofs.showing.schedule_with.Given as goal

-- the events so far
abbrev pub invariant-loop-event : goal.invariant-loop-event
invariant-loop-event l = record {
  good : IsSchedule l.schedule;
  nodes : l.schedule.nodes ≡ l.fn.extent.nodes;
  lines : l.schedule.lines ≡ l.fn.extent.lines;
  slots : l.schedule.slots ≡ l.fn.extent.slots;
  events : l.schedule.events ≡ take l.event-index l.events;
}
