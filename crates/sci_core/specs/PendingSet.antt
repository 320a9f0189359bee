-- The lines with an operation pending.
use Rattle.std.specs.Prelude.{◌≡◌, ◌≤◌, ℕ, List, length, slice_index_or, Option, None, is_some}
use Rattle.sci_words.specs.declared.limits.TheConstants.{MAX_LINES}
use Rattle.sci_cache.specs.LineSet.{is_in}
use Rattle.sci_core.specs.declared.pending.Pending.{Pending}

-- a set has just the lines with an operation pending
pub record IsPendingSet (set : ℕ) (pending : List (Option Pending)) : Type 0 where
  pub few : length pending ≤ MAX_LINES
  pub each : (line : ℕ) → is_in set line ≡ is_some (slice_index_or pending line None)
