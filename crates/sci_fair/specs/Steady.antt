-- Whole turns of a machine's nodes that change no level: what they try fails, and they try it again.
use Rattle.std.specs.Prelude.{◌≡◌, ◌≢◌, ◌<◌, ℕ, zero, suc, List, [], ◌∷◌, ◌++◌}
use Rattle.sci_history.specs.Seen.{IsAmong}
use Rattle.sci_core.specs.{Core.{Core, node_at}, Reached.{IsReached}}
use Rattle.sci_policy.specs.{declared.progress.Progress.{Progress}, Policy.{PolicyOf}}
use Rattle.sci_turn.specs.{Posts.{post_at}, Whole.{IsWholeTurn}}
use Rattle.sci_fair.specs.{Between.{AreShort, IsBetweenTurns}, Lanes.{AreOpen}, Rank.{CannotPerform, level_on}, Reads.{ReadsFit}}

-- a machine that works by turns, between two of them: from here on each of its turns is one of those that laws speak of
pub record WorksByTurns (core : Core) : Type 0 where
  pub reached : IsReached core
  pub fit : ReadsFit core
  pub opened : AreOpen core
  pub between : IsBetweenTurns core

-- a machine, and what the policy of each of its nodes remembers
pub record Working : Type 0 where
  pub core : Core
  pub policies : ℕ → PolicyOf

-- the level of a node's line
abbrev pub level_at : Working → ℕ → ℕ → ℕ
level_at w n line = level_on (w.policies n) (node_at w.core n) line

-- A whole turn of node n, which has the machine for itself. No lane has more packets than it has cells.
pub record IsTurnAlone (n : ℕ) (old new : Working) : Type 0 where
  pub some : n < old.core.size.nodes
  pub progress : Progress
  pub whole : IsWholeTurn (old.policies n) (post_at n old.core) (new.policies n) (post_at n new.core) progress
  pub others : (m : ℕ) → m ≢ n → new.policies m ≡ old.policies m
  pub short : AreShort new.core

-- and the node can perform nothing, and each line of each node has the level that it had
pub record IsSteadyTurn (n : ℕ) (old new : Working) : Type 0 where
  pub alone : IsTurnAlone n old new
  pub cannot : CannotPerform (node_at old.core n)
  pub same : (m line : ℕ) → level_at new m line ≡ level_at old m line

-- turns of these nodes, one after another
abbrev pub AreTurns : {X : Type 0} → (ℕ → X → X → Type 0) → List ℕ → X → X → Type 0
AreTurns IsTurn [] old new = old ≡ new
AreTurns IsTurn (n ∷ order) old new = (mid : _) × IsTurn n old mid × AreTurns IsTurn order mid new

abbrev pub AreSteadyTurns : List ℕ → Working → Working → Type 0
AreSteadyTurns = AreTurns IsSteadyTurn

-- an order has this many windows, one after another, in each of which each node comes
abbrev pub HasWindows : ℕ → ℕ → List ℕ → Type 0
HasWindows nodes zero order = Unit {0}
HasWindows nodes (suc count) order =
    (window rest : List ℕ) × (order ≡ window ++ rest) × ((n : ℕ) → n < nodes → IsAmong n window) × HasWindows nodes count rest

-- among these turns comes one of node n, of which this is true
pub record HasTurnBy (IsTurn : ℕ → Working → Working → Type 0) (n : ℕ) (P : Working → Working → Type 0) (order : List ℕ) (first last : Working) : Type 0 where
  pub before : List ℕ
  pub after : List ℕ
  pub whole : order ≡ before ++ n ∷ after
  pub old : Working
  pub new : Working
  pub leads : AreTurns IsTurn before first old
  pub turn : IsTurn n old new
  pub later : AreTurns IsTurn after new last
  pub so : P old new

abbrev pub HasTurn : ℕ → (Working → Working → Type 0) → List ℕ → Working → Working → Type 0
HasTurn = HasTurnBy IsSteadyTurn
