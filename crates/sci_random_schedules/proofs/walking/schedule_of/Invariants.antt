use Rattle.std.proofs.Common.{◌≡◌, ◌++◌, List, length}
use Rattle.sci_words.specs.declared.{event.Event.{Event}, limits.TheConstants.{MAX_OPERATIONS}}
use Rattle.sci_random.specs.Drawing.{seeded}
use Rattle.sci_core.specs.{Core.{opening}, Size.{size_of}}
use Rattle.sci_text.specs.Schedule.{IsSchedule}
use Rattle.sci_random_schedules.specs.Walking.{Walks}
use Rattle.sci_random_schedules.proofs.walking.schedule_of.Given as goal

-- this many events were drawn: what is drawn from here on goes on the walk
abbrev pub invariant-loop-event : goal.invariant-loop-event
invariant-loop-event l = record {
  good : IsSchedule l.schedule;
  nodes_are : l.schedule.nodes ≡ l.fn.extent.nodes;
  lines_are : l.schedule.lines ≡ l.fn.extent.lines;
  slots_are : l.schedule.slots ≡ l.fn.extent.slots;
  counted : length l.schedule.events ≡ l._event;
  sized : l.machine.size ≡ size_of l.fn.extent MAX_OPERATIONS;
  walks : (more : List Event) → Walks l.fn.share l.machine l.random more
      → Walks l.fn.share (opening (size_of l.fn.extent MAX_OPERATIONS)) (seeded l.fn.seed) (l.schedule.events ++ more);
}
