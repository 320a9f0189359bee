use Rattle.std.proofs.Common.{◌≡◌, ◌++◌, take}
use Rattle.std.specs.List.{flat_map}
use Rattle.sci_reports.specs.NoteText.{shown_line}
use Rattle.sci_reports.proofs.note.push_all_shown.Given as goal

-- the lines of the entries so far
abbrev pub invariant-loop-it : goal.invariant-loop-it
invariant-loop-it l = l.out.items ≡ l.fn.out.items ++ flat_map (shown_line l.marked) (take l.it-index l.shown)
