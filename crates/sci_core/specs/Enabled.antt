-- What of a packet or a node makes an event enabled, in every state where a schedule leads.
use Rattle.std.specs.Prelude.{◌≡◌, ◌<◌, ℕ, true, false, List, ◌∷◌, None, IsSome}
use Rattle.sci_cache.specs.{State.{waits}, Cache.{Letter, line_of}}
use Rattle.sci_core.specs.declared.lane.LaneKind.TheVariants.{Requests, Answers}
use Rattle.sci_core.specs.Node.{node_serving, node_refusing, node_accepting, is_setback}
use Rattle.sci_core.specs.Core.{Core, node_at, lane_of}

-- a lane of answers: the front is accepted by its taker
abbrev pub IsAcceptedAt : Core → ℕ → ℕ → Type 0
IsAcceptedAt core from n = (letter : Letter) (rest : List Letter) → lane_of core Answers from n ≡ letter ∷ rest
    → IsSome (node_accepting (node_at core n) letter)

-- a lane of requests: the front is served by its taker unless an answer waits there, and refused too unless it is a
-- Setback; and each request's sender waits for its answer
pub record AreServedAt (core : Core) (from n : ℕ) : Type 0 where
  pub served : (letter : Letter) (rest : List Letter) → lane_of core Requests from n ≡ letter ∷ rest → (node_at core n).waiting ≡ None
      → IsSome (node_serving (node_at core n) letter)
  pub refused : (letter : Letter) (rest : List Letter) → lane_of core Requests from n ≡ letter ∷ rest → (node_at core n).waiting ≡ None
      → is_setback letter.body ≡ false → IsSome (node_refusing (node_at core n) letter)
  pub waited : (letter : Letter) (rest : List Letter) → lane_of core Requests from n ≡ letter ∷ rest
      → (letter.line < core.size.lines) × (waits (line_of (node_at core from).cache letter.line).state ≡ true)
