use Rattle.std.proofs.Common.{◌≡◌, ◌<◌, ℕ, false, get_or}
use Rattle.std.specs.Prelude.{◌==◌}
use Rattle.sci_reports.proofs.FoundEntries.{no_numbered}
use Rattle.sci_reports.proofs.note.place_on.Given as goal

-- no entry so far stands on the line
abbrev pub invariant-loop-place : goal.invariant-loop-place
invariant-loop-place l = (k : ℕ) → k < l.place → ((get_or l.placed k no_numbered).text_line == l.text_line) ≡ false
