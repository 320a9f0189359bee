use Rattle.std.proofs.Common.{◌≡◌, ◌++◌, drop, length}
use Rattle.sci_statistics.specs.Passages.{passages, passages_from}
use Rattle.sci_statistics.proofs.walk.passages_of.Given as goal

-- the passages so far, and what is left of them
abbrev pub invariant-loop-event : goal.invariant-loop-event
invariant-loop-event l = record {
  walked : passages_from l.fn.extent l.events ≡ l.found.items ++ passages l.machine (drop l.event-index l.events);
  counted : length l.found.items ≡ l.event-index;
}
