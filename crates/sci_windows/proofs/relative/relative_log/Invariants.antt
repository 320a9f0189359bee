use Rattle.std.proofs.Common.{◌≡◌, map, take}
use Rattle.sci_windows.specs.Relative.{relative_entry}
use Rattle.sci_windows.proofs.relative.relative_log.Given as goal

-- the entries so far are relative
abbrev pub invariant-loop-entry : goal.invariant-loop-entry
invariant-loop-entry l = l.made.items ≡ map (relative_entry l.first) (take l.entry-index l.log)
