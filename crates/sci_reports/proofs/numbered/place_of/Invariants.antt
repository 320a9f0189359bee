use Rattle.std.proofs.Common.{◌≡◌, ◌<◌, ℕ, Some, slice_get}
use Rattle.sci_history.specs.declared.entry.Entry.{Entry}
use Rattle.sci_reports.proofs.numbered.place_of.Given as goal

-- no such entry stands at a place so far
abbrev pub invariant-loop-place : goal.invariant-loop-place
invariant-loop-place l = (place : ℕ) → place < l.place → (found : Entry) → slice_get l.log place ≡ Some found → found.serial ≡ l.entry.serial
    → found.op.line ≡ l.entry.op.line → ⊥
