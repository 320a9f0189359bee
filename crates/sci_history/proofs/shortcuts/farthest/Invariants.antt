use Rattle.std.proofs.Common.{◌≡◌, ◌<◌, ℕ, Some}
use Rattle.std.specs.Prelude.{slice_get}
use Rattle.sci_history.specs.{declared.order_verdict.Step.{Step}, Shortcuts.{ComesAfterAt, IsFree}}
use Rattle.sci_history.proofs.shortcuts.farthest.Given as goal

-- the last so far that the step comes after
abbrev pub invariant-loop-other : goal.invariant-loop-other
invariant-loop-other l = record {
  onward : l.place < l.found.0;
  before : l.found.0 < l.other;
  comes : ComesAfterAt l.steps l.place l.found.0 l.found.1;
  farthest : (there : ℕ) (x y : Step) → l.found.0 < there → there < l.other → slice_get l.steps l.place ≡ Some x → slice_get l.steps there ≡ Some y
      → IsFree x y;
}
