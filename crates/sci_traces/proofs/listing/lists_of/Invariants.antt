use Rattle.std.proofs.Common.{◌≡◌, ◌+◌, drop}
use Rattle.sci_command.specs.Beginning.{before}
use Rattle.sci_traces.proofs.Listed.{IsListedTo}
use Rattle.sci_traces.proofs.listing.lists_of.Given as goal

-- the lists so far
abbrev pub invariant-loop-event : goal.invariant-loop-event
invariant-loop-event l = record {
  listed : IsListedTo l.fn.asked (before l.fn.schedule) l.fn.schedule.events l.text.items l.machine l.number (drop l.event-index l.event-items);
  counted : l.number ≡ 2 + l.event-index;
}
