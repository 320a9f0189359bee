use Rattle.std.proofs.Common.{◌≡◌, [], ℕ, ◌<◌, length, get_or}
use Rattle.std.specs.Prelude.{replicate}
use Rattle.sci_history.specs.Audit.{lists_of}
use Rattle.sci_history.proofs.ByLine.{front_on_line}
use Rattle.sci_history.proofs.by_line.by_line.Given as goal

abbrev pub invariant-loop : goal.invariant-loop
invariant-loop l = record {
  lines : length l.lists.items ≡ l.counter;
  empty : lists_of l.lists.items ≡ replicate l.counter [];
}

-- each list has the entries on its line of the logs so far
abbrev pub invariant-loop-node : goal.invariant-loop-node
invariant-loop-node l = record {
  lines : length l.lists.items ≡ l.lines;
  added : (line : ℕ) → line < l.lines → get_or (lists_of l.lists.items) line [] ≡ front_on_line line l.node l.logs;
}
