use Rattle.std.proofs.Common.{◌≡◌, ◌<◌, ◌+◌, ℕ, Some}
use Rattle.std.specs.Prelude.{slice_get}
use Rattle.sci_history.specs.{declared.order_verdict.Step.{Step}, Shortcuts.{IsFree, IsFreeWithin}}
use Rattle.sci_history.proofs.shortcuts.shortest_part.Given as goal

-- no entry comes after one before it that is nearer
abbrev pub invariant-loop-span : goal.invariant-loop-span
invariant-loop-span l = IsFreeWithin l.steps l.span

-- nor after one before it at this distance, so far
abbrev pub invariant-loop-first : goal.invariant-loop-first
invariant-loop-first l = record {
  nearer : IsFreeWithin l.steps l.span;
  here : (there : ℕ) (x y : Step) → there < l.first → slice_get l.steps (there + l.span) ≡ Some x → slice_get l.steps there ≡ Some y → IsFree x y;
}
