-- The state of the whole machine, and its steps. A step is a node's side of an event together with the one packet
-- that is sent or taken.
use Rattle.std.specs.Prelude.{◌≡◌, ◌≤◌, length, ℕ, ◌+◌, ◌*◌, nat_lt, if◌then◌else◌, List, [], ◌∷◌, ◌++◌, map, replicate, slice_index_or, slice_set, Option}
use Rattle.std.specs.{Prelude.{Some, None, unwrap_or, IsSome}, List.{fold, range_with_len}}
use Rattle.sci_words.specs.declared.{extent.Extent.{Extent}, event.Event.{Event}}
use Rattle.sci_history.specs.declared.entry.Entry.{Entry}
use Rattle.sci_cache.specs.Cache.{Letter}
use Rattle.sci_core.specs.{declared.lane.LaneKind.{LaneKind, TheVariants.{Requests, Answers}}, Size.{Size, size_of}}
use Rattle.sci_core.specs.Node.{NodeOf, opening_node, no_node, node_issuing, node_performing, node_asking, node_serving, node_refusing, node_replying}
use Rattle.sci_core.specs.Node.{node_accepting}
use Rattle.sci_words.specs.declared.event.Event.TheVariants as event

pub record Core : Type 0 where
  pub size : Size
  -- each node's part
  pub parts : List NodeOf
  -- the packets that are under way from each node to each, oldest first
  pub lanes : List (List Letter)

-- the state of these parts
abbrev pub core_of : Extent → ℕ → List NodeOf → List (List Letter) → Core
core_of extent limit parts lanes = record { size = size_of extent limit; parts = parts; lanes = lanes }

-- ---- nodes and lanes

abbrev pub node_at : Core → ℕ → NodeOf
node_at core n = slice_index_or core.parts n no_node

abbrev pub with_node : Core → ℕ → NodeOf → Core
with_node core n node = record core { parts = slice_set core.parts n node }

abbrev pub kind_number : LaneKind → ℕ
kind_number Requests = 0
kind_number Answers = 1

-- where the lane of a kind from one node to another stands among all
abbrev pub lane_place : ℕ → LaneKind → ℕ → ℕ → ℕ
lane_place nodes kind from to = (kind_number kind * nodes + from) * nodes + to

abbrev pub lane_at : Core → ℕ → List Letter
lane_at core place = slice_index_or core.lanes place []

abbrev pub lane_of : Core → LaneKind → ℕ → ℕ → List Letter
lane_of core kind from to = lane_at core (lane_place core.size.nodes kind from to)

abbrev pub with_lane : Core → ℕ → List Letter → Core
with_lane core place lane = record core { lanes = slice_set core.lanes place lane }

-- ---- a node's side of an event

pub data Side : Type 0 where
  -- the event is not enabled
  Idle : Side
  -- the node changes, and no packet moves
  Changes : (next : NodeOf) → Side
  -- the node changes and sends a packet
  Sends : (kind : LaneKind) (next : NodeOf) (letter : Letter) → Side
  -- the node takes the oldest packet from another: what becomes of it for each, or none
  Takes : (kind : LaneKind) (from : ℕ) (taking : Letter → Option NodeOf) → Side

abbrev pub changes : Option NodeOf → Side
changes None = Idle
changes (Some next) = Changes next

abbrev pub performs : Option (NodeOf × Entry) → Side
performs None = Idle
performs (Some done) = Changes done.0

abbrev pub sends : LaneKind → Option (NodeOf × Letter) → Side
sends kind None = Idle
sends kind (Some sent) = Sends kind sent.0 sent.1

abbrev pub side : NodeOf → Event → Side
side node (event.Issue n op) = changes (node_issuing node op)
side node (event.Perform n line) = performs (node_performing node line)
side node (event.Ask n line kind) = sends Requests (node_asking node line kind)
side node (event.Serve from n) = Takes Requests from (node_serving node)
side node (event.Refuse from n) = Takes Requests from (node_refusing node)
side node (event.Reply n) = sends Answers (node_replying node)
side node (event.Accept from n) = Takes Answers from (node_accepting node)

-- the node whose event it is
abbrev pub node_of : Event → ℕ
node_of (event.Issue n op) = n
node_of (event.Perform n line) = n
node_of (event.Ask n line kind) = n
node_of (event.Serve from n) = n
node_of (event.Refuse from n) = n
node_of (event.Reply n) = n
node_of (event.Accept from n) = n

-- ---- steps

-- the packet ends the lane to its target
abbrev pub with_sent : Core → LaneKind → ℕ → Letter → Core
with_sent core kind n letter = with_lane core (lane_place core.size.nodes kind n letter.target) (lane_of core kind n letter.target ++ letter ∷ [])

-- the node changes, and sends a packet
abbrev pub sent_by : Core → ℕ → LaneKind → NodeOf → Letter → Core
sent_by core n kind next letter = with_sent (with_node core n next) kind n letter

abbrev pub taken_as : Core → ℕ → ℕ → List Letter → Option NodeOf → Option Core
taken_as core n place rest None = None
taken_as core n place rest (Some next) = Some (with_lane (with_node core n next) place rest)

-- the front of a lane is taken, if the node takes it
abbrev pub taken_from : Core → ℕ → ℕ → (Letter → Option NodeOf) → List Letter → Option Core
taken_from core n place taking [] = None
taken_from core n place taking (letter ∷ rest) = taken_as core n place rest (taking letter)

abbrev pub step_by : Core → ℕ → Side → Option Core
step_by core n Idle = None
step_by core n (Changes next) = Some (with_node core n next)
step_by core n (Sends kind next letter) = Some (sent_by core n kind next letter)
step_by core n (Takes kind from taking) =
    if nat_lt from core.size.nodes
    then taken_from core n (lane_place core.size.nodes kind from n) taking (lane_of core kind from n)
    else None

-- the state after an event, or none if it is not enabled
unfoldable pub stepping : Core → Event → Option Core
stepping core event = if nat_lt (node_of event) core.size.nodes then step_by core (node_of event) (side (node_at core (node_of event)) event) else None

abbrev pub IsEnabled : Core → Event → Type 0
IsEnabled core event = IsSome (stepping core event)

-- an event that is not enabled changes nothing
abbrev pub step : Core → Event → Core
step core event = unwrap_or (stepping core event) core

-- ---- runs

-- all lines Out and HOME with zero words at version 0, all else empty
abbrev pub opening : Size → Core
opening size = record {
  size = size;
  parts = map (λ n. opening_node n size) (range_with_len 0 size.nodes);
  lanes = replicate (2 * size.nodes * size.nodes) [];
}

-- the state where the events, one after another, lead
abbrev pub run_from : Core → List Event → Core
run_from core events = fold step core events

abbrev pub run : Size → List Event → Core
run size events = run_from (opening size) events

-- each of these further events of a schedule is enabled in the state where it comes
abbrev pub AreEnabled : Size → List Event → List Event → Type 0
AreEnabled size known [] = Unit {0}
AreEnabled size known (e ∷ more) = IsEnabled (run size known) e × AreEnabled size (known ++ e ∷ []) more

-- what the events of a list give from a state on, each in the state to which those before it lead
abbrev pub along : {X : Type 0} → (Core → Event → List X) → Core → List Event → List X
along f core [] = []
along f core (e ∷ events) = f core e ++ along f (step core e) events

-- ---- sizes

-- how many nodes and lanes a state has
pub record HasSize (core : Core) : Type 0 where
  pub some_node : 1 ≤ core.size.nodes
  pub parts_long : length core.parts ≡ core.size.nodes
  pub lanes_long : length core.lanes ≡ 2 * core.size.nodes * core.size.nodes
