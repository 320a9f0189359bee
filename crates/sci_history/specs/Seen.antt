-- What a processor did on a line, as the logs have it.
use Rattle.std.specs.Prelude.{◌≡◌, ◌⊎◌, ◌<◌, ℕ, List, [], ◌∷◌}
use Rattle.sci_words.specs.declared.limits.TheConstants.{MAX_NODES}
use Rattle.sci_history.specs.{declared.entry.Entry.{Entry}, Placed.{log_of}}

-- an element is among some
abbrev pub IsAmong : {X : Type 0} → X → List X → Type 0
IsAmong x [] = ⊥
IsAmong x (y ∷ ys) = (x ≡ y) ⊎ IsAmong x ys

-- a node's log has this entry on a line
pub record DidOn (logs : List (List Entry)) (line node : ℕ) (entry : Entry) : Type 0 where
  pub known : node < MAX_NODES
  pub among : IsAmong entry (log_of logs node)
  pub on : entry.op.line ≡ line
