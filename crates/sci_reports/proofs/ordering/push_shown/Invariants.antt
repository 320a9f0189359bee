use Rattle.std.proofs.Common.{◌≡◌, ◌++◌, take}
use Rattle.std.specs.List.{flat_map}
use Rattle.sci_history.specs.Audit.{entries_of}
use Rattle.sci_text.specs.Log.{entry_line}
use Rattle.sci_reports.proofs.ordering.push_shown.Given as goal

-- the lines of the entries so far
abbrev pub invariant-loop-entry : goal.invariant-loop-entry
invariant-loop-entry l = l.out.items ≡ l.fn.out.items ++ flat_map entry_line (entries_of (take l.entry-index l.order))
