-- A packet that a node takes: Serve, Refuse and Accept are one step.
use Rattle.std.proofs.Common.{◌≡◌, ℕ, ◌<◌, ◌≤◌, set, drop, Some, None, refl, ◌∙◌, arith}
use Rattle.std.specs.Prelude.{slice_get}
use Rattle.sci_cache.specs.Cache.{Letter}
use Rattle.sci_core.specs.declared.{lane.LaneKind.TheVariants.{Requests, Answers}, taking.Taking.{Taking}}
use Rattle.sci_core.specs.declared.taking.Taking.TheVariants.{Serve, Refuse, Accept}
use Rattle.sci_core.specs.Node.{NodeOf, node_serving, node_refusing, node_accepting}
use Rattle.sci_core.specs.Core.{Core, node_at, lane_place, lane_of, with_lane, taken_from, stepping}
use Rattle.sci_core.specs.{Taking.{lane_kind, taking_event, node_taking, IsTakable}, WellFormed.{IsWellFormed}}
use Rattle.sci_core.proofs.Step.Applied.{servable, acceptable}
use Rattle.sci_core.proofs.Step.Stepping.{stepping_takes, stepping_from_nobody, empty_lane, front_taken}
use Rattle.sci_words.specs.declared.event.Event.TheVariants as event

-- there is no such sender
pub taking_from_nobody : (core : Core) (taking : Taking) (from n : ℕ) → n < core.size.nodes → core.size.nodes ≤ from
    → stepping core (taking_event taking from n) ≡ None
taking_from_nobody core Serve from n lt f = stepping_from_nobody core (event.Serve from n) Requests from (node_serving (node_at core n)) lt f refl
taking_from_nobody core Refuse from n lt f = stepping_from_nobody core (event.Refuse from n) Requests from (node_refusing (node_at core n)) lt f refl
taking_from_nobody core Accept from n lt f = stepping_from_nobody core (event.Accept from n) Answers from (node_accepting (node_at core n)) lt f refl

-- the step, from its lane
pub stepping_taking : (core : Core) (taking : Taking) (from n : ℕ) → n < core.size.nodes → from < core.size.nodes
    → stepping core (taking_event taking from n) ≡ taken_from core n (lane_place core.size.nodes (lane_kind taking) from n)
    (node_taking taking (node_at core n)) (lane_of core (lane_kind taking) from n)
stepping_taking core Serve from n lt f = stepping_takes core (event.Serve from n) Requests from (node_serving (node_at core n)) lt f refl
stepping_taking core Refuse from n lt f = stepping_takes core (event.Refuse from n) Requests from (node_refusing (node_at core n)) lt f refl
stepping_taking core Accept from n lt f = stepping_takes core (event.Accept from n) Answers from (node_accepting (node_at core n)) lt f refl

pub taking_empty : (core : Core) (taking : Taking) (from n : ℕ) → n < core.size.nodes → from < core.size.nodes
    → slice_get (lane_of core (lane_kind taking) from n) 0 ≡ None → stepping core (taking_event taking from n) ≡ None
taking_empty core taking from n lt f none =
    stepping_taking core taking from n lt f ∙ empty_lane core n _ (node_taking taking (node_at core n)) (lane_of core (lane_kind taking) from n) none

-- the front of a lane may be given to its receiver
pub takable : (core : Core) (taking : Taking) (from n : ℕ) (letter : Letter) → IsWellFormed core → from < core.size.nodes → n < core.size.nodes
    → slice_get (lane_of core (lane_kind taking) from n) 0 ≡ Some letter → IsTakable taking (node_at core n) letter
takable core Serve from n letter well f lt front = servable core from n letter well f lt front
takable core Refuse from n letter well f lt front = servable core from n letter well f lt front
takable core Accept from n letter well f lt front = acceptable core from n letter well f lt front

-- ---- what a call on the node at its place gives, told of the whole state

pub taking_untaken : (core : Core) (taking : Taking) (from n : ℕ) (old : NodeOf) (letter : Letter) → n < core.size.nodes → from < core.size.nodes
    → slice_get (lane_of core (lane_kind taking) from n) 0 ≡ Some letter
    → old ≡ node_at core n → node_taking taking old letter ≡ None → stepping core (taking_event taking from n) ≡ None
taking_untaken core taking from n old letter lt f front read none = grind (arith, stepping_taking, front_taken)

-- the node takes a packet, and then the packet leaves its lane
pub taking_done : (core new : Core) (taking : Taking) (from n i : ℕ) (old next : NodeOf) (letter : Letter) → n < core.size.nodes → from < core.size.nodes
    → slice_get (lane_of core (lane_kind taking) from n) 0 ≡ Some letter
    → i ≡ n → old ≡ node_at core n → node_taking taking old letter ≡ Some next
    → new ≡ with_lane (record core { parts = set core.parts i next }) (lane_place core.size.nodes (lane_kind taking) from n)
    (drop 1 (lane_of core (lane_kind taking) from n))
    → stepping core (taking_event taking from n) ≡ Some new
taking_done core new taking from n i old next letter lt f front is read some same = grind (arith, stepping_taking, front_taken)
