-- That a node's turn looks at the front of each lane of requests to it.
use Rattle.std.specs.Prelude.{◌≡◌, ◌⊎◌, ℕ, List, Some, None}
use Rattle.sci_words.specs.declared.event.Event.{Event}
use Rattle.sci_cache.specs.Cache.{Letter}
use Rattle.sci_core.specs.declared.lane.LaneKind.TheVariants.{Requests}
use Rattle.sci_core.specs.{Core.{Core, lane_of, stepping}, Reached.{IsReached}}
use Rattle.sci_policy.specs.Policy.{PolicyOf}
use Rattle.sci_turn.specs.Moves.{taken_next}

-- At a moment of a turn in which this many turns were counted, this was the lane from node j to node n. Its front was taken
-- as the policy decides; or it was kept, or an answer waited.
pub record HasLooked (n j turns : ℕ) (lane : List Letter) : Type 0 where
  pub policy : PolicyOf
  pub core : Core
  pub reached : IsReached core
  pub here : lane_of core Requests j n ≡ lane
  pub counted : policy.turns ≡ turns
  pub did : (taken_next policy core j n ≡ None)
      ⊎ ((e : Event) × (next : Core) × (taken_next policy core j n ≡ Some e) × (stepping core e ≡ Some next))
