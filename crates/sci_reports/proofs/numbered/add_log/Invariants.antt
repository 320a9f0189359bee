use Rattle.std.proofs.Common.{◌≡◌, ◌+◌, ◌++◌, ◌<◌, ℕ, [], get_or, length, take}
use Rattle.sci_reports.specs.EntryLines.{numbered_lists, on_line_from}
use Rattle.sci_reports.proofs.numbered.add_log.Given as goal

-- each list has the entries so far that are on its line
abbrev pub invariant-loop-entry : goal.invariant-loop-entry
invariant-loop-entry l = record {
  lines : length l.lists.items ≡ length l.fn.lists.items;
  listed : (line : ℕ) → line < length l.fn.lists.items
      → get_or (numbered_lists l.lists.items) line []
      ≡ get_or (numbered_lists l.fn.lists.items) line [] ++ on_line_from line l.first (take l.entry-index l.log);
  counted : l.text_line ≡ l.first + l.entry-index;
}
