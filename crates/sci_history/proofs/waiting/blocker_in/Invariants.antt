use Rattle.std.proofs.Common.{◌≡◌, ◌≤◌, ◌<◌, ℕ, Some, None}
use Rattle.std.specs.Prelude.{slice_get}
use Rattle.sci_history.specs.{declared.entry.Entry.{Entry}, Placing.{line_reason}}
use Rattle.sci_history.proofs.waiting.blocker_in.Given as goal

-- none of those so far comes before the entry
abbrev pub invariant-loop-place : goal.invariant-loop-place
invariant-loop-place l = record {
  begun : l.from ≤ l.place;
  none : (place : ℕ) (other : Entry) → l.from ≤ place → place < l.place → slice_get l.log place ≡ Some other → line_reason l.entry other ≡ None;
}
