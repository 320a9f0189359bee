-- A machine that is lent to one of its nodes.
use Rattle.std.specs.Prelude.{◌<◌, ◌≤◌, ℕ, length}
use Rattle.sci_words.specs.declared.limits.TheConstants.{LANE_CELLS}
use Rattle.sci_core.specs.Core.{Core, lane_at}
use Rattle.sci_policy.specs.{declared.progress.Progress.{Progress}, Policy.{PolicyOf}}
use Rattle.sci_turn.specs.{Moves.{IsTurn}, Posts.{post_at}}

-- the events of a turn of node n that memory stopped
pub record IsPartOfTurn (n : ℕ) (before : PolicyOf) (old : Core) (after : PolicyOf) (new : Core) : Type 0 where
  pub progress : Progress
  pub turn : IsTurn before (post_at n old) after (post_at n new) progress

-- no lane grows beyond the cells that it has
abbrev pub KeepsRoom : Core → Core → Type 0
KeepsRoom old new = (place : ℕ) → LANE_CELLS < length (lane_at new place) → length (lane_at new place) ≤ length (lane_at old place)
