use Rattle.std.proofs.Common.{◌≡◌, ◌≤◌, length, take}
use Rattle.std.specs.List.{filter}
use Rattle.sci_statistics.specs.Measures.{is_on}
use Rattle.sci_statistics.proofs.line_figures.on_line.Given as goal

-- those so far
abbrev pub invariant-loop-it : goal.invariant-loop-it
invariant-loop-it l = record {
  found : l.found.items ≡ filter (is_on l.line) (take l.it-index l.passages);
  few : length l.found.items ≤ l.it-index;
}
