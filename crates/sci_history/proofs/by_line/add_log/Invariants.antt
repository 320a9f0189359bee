use Rattle.std.proofs.Common.{◌≡◌, ◌++◌, [], ℕ, ◌<◌, length, take, get_or}
use Rattle.std.specs.List.{filter}
use Rattle.sci_history.specs.{Placed.{is_on_line}, Audit.{lists_of}}
use Rattle.sci_history.proofs.by_line.add_log.Given as goal

-- each list has the entries so far that are on its line
abbrev pub invariant-loop-entry : goal.invariant-loop-entry
invariant-loop-entry l = record {
  lines : length l.lists.items ≡ length l.fn.lists.items;
  added : (line : ℕ) → line < length l.fn.lists.items
      → get_or (lists_of l.lists.items) line [] ≡ get_or (lists_of l.fn.lists.items) line [] ++ filter (is_on_line line) (take l.entry-index l.log);
}
