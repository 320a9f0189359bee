use Rattle.std.proofs.Common.{◌≡◌, ◌<◌, ℕ, [], get_or, length, take}
use Rattle.std.specs.Prelude.{replicate}
use Rattle.sci_reports.specs.EntryLines.{numbered_lists, numbered_on}
use Rattle.sci_reports.proofs.numbered.entries_by_line.Given as goal

abbrev pub invariant-loop : goal.invariant-loop
invariant-loop l = record {
  lines : length l.lists.items ≡ l.counter;
  empty : numbered_lists l.lists.items ≡ replicate l.counter [];
}

-- each list has the entries on its line of the nodes so far
abbrev pub invariant-loop-node : goal.invariant-loop-node
invariant-loop-node l = record {
  lines : length l.lists.items ≡ l.lines;
  listed : (line : ℕ) → line < l.lines → get_or (numbered_lists l.lists.items) line [] ≡ numbered_on line l.before (take l.node l.logs);
}
