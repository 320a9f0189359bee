-- What a machine that works by turns goes through between two Performs, and how often the rank of a line changes.
use Rattle.std.specs.Prelude.{◌≡◌, ◌≢◌, ◌<◌, ◌⊎◌, ◌*◌, ℕ, zero, suc, List, [], ◌∷◌, Some}
use Rattle.sci_words.specs.declared.{event.Event.{TheVariants.{Issue}}, operation.Op.{Op}}
use Rattle.sci_core.specs.{Core.{node_at, stepping}, Size.{Size}}
use Rattle.sci_fair.specs.{Changes.{rank_at}, Rank.{CannotPerform}, Steady.{IsTurnAlone, Working}}

-- a step: a node issues an operation; or a node that can perform nothing takes a whole turn
pub data IsStep (old new : Working) : Type 0 where
  Issues : (n : ℕ) (op : Op) → stepping old.core (Issue n op) ≡ Some new.core → new.policies ≡ old.policies → IsStep old new
  Turns : (n : ℕ) → CannotPerform (node_at old.core n) → IsTurnAlone n old new → IsStep old new

-- some line of some node gets another rank
pub record HasChanged (old new : Working) : Type 0 where
  pub node : ℕ
  pub line : ℕ
  pub some_node : node < old.core.size.nodes
  pub some_line : line < old.core.size.lines
  pub other : rank_at new.core node line ≢ rank_at old.core node line

-- steps one after another, of which this many change a rank, and perhaps others
abbrev pub AreSteps : ℕ → Working → List Working → Type 0
AreSteps changes first [] = changes ≡ 0
AreSteps zero first (next ∷ later) = IsStep first next × AreSteps zero next later
AreSteps (suc changes) first (next ∷ later) =
    IsStep first next × ((HasChanged first next × AreSteps changes next later) ⊎ AreSteps (suc changes) next later)

-- at most this many of them do
abbrev pub most_changes : Size → ℕ
most_changes size = 141 * size.lines * size.nodes
