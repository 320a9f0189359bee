-- Turns of many nodes, one after another, in which no event is made, and no operation found that can be performed.
use Rattle.std.specs.Prelude.{◌≡◌, ◌≢◌, ◌<◌, ℕ, List, [], ◌∷◌}
use Rattle.sci_core.specs.Core.{Core}
use Rattle.sci_policy.specs.Policy.{PolicyOf}
use Rattle.sci_turn.specs.{Idle.{IsIdleTurn}, Posts.{post_at}}

-- a turn in vain of node n, which has the machine for itself: it reports nothing, and the policies of the others stay
pub record IsInVain (core : Core) (n : ℕ) (old new : ℕ → PolicyOf) : Type 0 where
  pub some : n < core.size.nodes
  pub idle : IsIdleTurn (old n) (post_at n core) (new n) (post_at n core)
  pub others : (m : ℕ) → m ≢ n → new m ≡ old m

-- turns in vain of these nodes, one after another
abbrev pub AreInVain : Core → List ℕ → (ℕ → PolicyOf) → (ℕ → PolicyOf) → Type 0
AreInVain core [] old new = old ≡ new
AreInVain core (n ∷ order) old new = (mid : ℕ → PolicyOf) × IsInVain core n old mid × AreInVain core order mid new
