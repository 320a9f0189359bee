-- Turns in which an operation waits.
use Rattle.std.specs.{Prelude.{◌≡◌, ◌≢◌, ◌⊎◌, ℕ, zero, suc, List, [], ◌∷◌}, List.{AllByRecursion}}
use Rattle.sci_words.specs.declared.event.Event.TheVariants.{Perform}
use Rattle.sci_fair.specs.{Changes.{rank_at}, Later.{IsLaterTurn}, Steady.{Working}}

-- node i takes a whole turn when it can perform nothing. What was issued and performed before it left the operation on node n's line.
pub record IsTurnBeside (n line i : ℕ) (old new : Working) : Type 0 where
  pub performed : ℕ
  pub later : IsLaterTurn performed i old new
  pub leaves : AllByRecursion (λ e. e ≢ Perform n line) later.works

-- such turns, one after another, of which this many change the rank of the line, and perhaps others
abbrev pub AreTurnsBeside : ℕ → ℕ → ℕ → List ℕ → Working → Working → Type 0
AreTurnsBeside n line changes [] old new = (changes ≡ 0) × (old ≡ new)
AreTurnsBeside n line zero (i ∷ order) old new = (mid : Working) × IsTurnBeside n line i old mid × AreTurnsBeside n line zero order mid new
AreTurnsBeside n line (suc changes) (i ∷ order) old new =
    (mid : Working) × IsTurnBeside n line i old mid × (((rank_at mid.core n line ≢ rank_at old.core n line) × AreTurnsBeside n line changes order mid new)
    ⊎ AreTurnsBeside n line (suc changes) order mid new)
