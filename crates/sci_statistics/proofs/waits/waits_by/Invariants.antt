use Rattle.std.proofs.Common.{◌≡◌, ◌≤◌, length, take}
use Rattle.sci_statistics.specs.Waits.{waits_by}
use Rattle.sci_statistics.proofs.waits.waits_by.Given as goal

-- those so far
abbrev pub invariant-loop-it : goal.invariant-loop-it
invariant-loop-it l = record {
  found : l.found.items ≡ waits_by l.access (take l.it-index l.waits);
  few : length l.found.items ≤ l.it-index;
}
