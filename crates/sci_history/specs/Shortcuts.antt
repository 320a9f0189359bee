-- Which entries of a cycle come after which, beside the next one.
use Rattle.std.specs.Prelude.{◌≡◌, ◌<◌, ◌≤◌, ◌+◌, ℕ, List, Some, length, slice_get}
use Rattle.sci_history.specs.declared.order_verdict.{Reason.{Reason}, Step.{Step}}
use Rattle.sci_history.specs.Cycle.{ComesAfter, HasNoShortcut, IsRound}

-- one entry doesn't come after another, for any reason
abbrev pub IsFree : Step → Step → Type 0
IsFree x y = (reason : Reason) → ComesAfter reason x y → ⊥

-- the entry at one place comes after that at another, for this reason
abbrev pub ComesAfterAt : List Step → (here there : ℕ) → Reason → Type 0
ComesAfterAt steps here there reason = (x y : Step) → slice_get steps here ≡ Some x → slice_get steps there ≡ Some y → ComesAfter reason x y

-- no entry comes after one before it that is less than a span before it
abbrev pub IsFreeWithin : List Step → (span : ℕ) → Type 0
IsFreeWithin steps span = (here there : ℕ) (x y : Step) → there < here → here < there + span → slice_get steps here ≡ Some x → slice_get steps there ≡ Some y
    → IsFree x y

-- each entry is one of some others, at the same place of its log
abbrev pub AreOf : (steps kept : List Step) → Type 0
AreOf steps kept = (k : ℕ) (x : Step) → slice_get kept k ≡ Some x
    → (place : ℕ) × (y : Step) × (slice_get steps place ≡ Some y) × (y.entry ≡ x.entry) × (y.place ≡ x.place)

-- a round of entries of another one, without a shortcut
pub record IsBareRoundOf (steps kept : List Step) : Type 0 where
  pub round : IsRound kept
  pub bare : HasNoShortcut kept
  pub own : AreOf steps kept
  pub few : length kept ≤ length steps
