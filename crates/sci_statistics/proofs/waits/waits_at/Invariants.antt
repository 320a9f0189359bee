use Rattle.std.proofs.Common.{◌≡◌, ◌≤◌, length}
use Rattle.std.specs.List.{filter_map, range_with_len}
use Rattle.sci_statistics.specs.Waits.{wait_at}
use Rattle.sci_statistics.proofs.Waiting.{IsBehind}
use Rattle.sci_statistics.proofs.waits.waits_at.Given as goal

-- the places and the waits so far
abbrev pub invariant-loop-place : goal.invariant-loop-place
invariant-loop-place l = record {
  places : IsBehind l.node l.passages l.place l.behind_issue.items;
  found : l.found.items ≡ filter_map (wait_at l.node l.passages) (range_with_len 0 l.place);
  few : length l.found.items ≤ l.place;
}
