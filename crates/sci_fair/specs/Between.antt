-- What holds of a machine between the whole turns of its nodes, if none of its lanes takes more packets than one between running
-- stations.
use Rattle.std.specs.Prelude.{◌≡◌, ◌≢◌, ◌<◌, ◌≤◌, ◌+◌, ℕ, length, None}
use Rattle.sci_words.specs.declared.limits.TheConstants.{LANE_CELLS}
use Rattle.sci_core.specs.declared.lane.LaneKind.TheVariants.{Requests, Answers}
use Rattle.sci_core.specs.Core.{Core, lane_at, lane_of, node_at}

-- no lane has more packets than it has cells
abbrev pub AreShort : Core → Type 0
AreShort core = (place : ℕ) → length (lane_at core place) ≤ LANE_CELLS

pub record IsBetweenTurns (core : Core) : Type 0 where
  -- no answer waits to be sent
  pub free : (n : ℕ) → (node_at core n).waiting ≡ None
  pub short : AreShort core
  -- one node's requests to another, and the answers to them, are no more than a lane has cells
  pub room : (a b : ℕ) → a < core.size.nodes → b < core.size.nodes → a ≢ b
      → length (lane_of core Requests a b) + length (lane_of core Answers b a) ≤ LANE_CELLS
