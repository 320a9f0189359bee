-- What a part of a state shows of it, and what a step needs.
use Rattle.std.specs.Prelude.{◌≡◌, ℕ, ◌+◌, ◌<◌, ◌≤◌, true, List, [], ◌∷◌, ◌++◌, length, slice_index, slice_index_or, Option, Some}
use Rattle.atomic_table.specs.Table.{Me}
use Rattle.sci_words.specs.declared.event.Event.{Event, TheVariants.{Serve, Refuse, Accept}}
use Rattle.sci_words.specs.declared.limits.TheConstants.{LANE_CELLS}
use Rattle.sci_packets.specs.{declared.packet.Packet.{Packet}, Spelling.{IsPacket, SpellsInWords, words_of}}
use Rattle.sci_cache.specs.{Cache.{Letter, letter_of, line_of}, State.{waits}}
use Rattle.sci_core.specs.{declared.lane.LaneKind.{LaneKind, TheVariants.{Requests, Answers}}, Size.{Size}}
use Rattle.sci_core.specs.Node.{NodeOf, lines_of, no_node}
use Rattle.sci_core.specs.Core.{AreEnabled, Core, Sends, Takes, Changes, side, node_of, node_at, lane_at, lane_of, lane_place, run, stepping}
use Rattle.sci_core.specs.Reached.{IsReached}
use Rattle.sci_lanes.specs.{declared.view.{Part.{Part}, View.{View}}, Cells.{lane_count, sender_of, receiver_of}}
use Rattle.sci_lanes.specs.Shown.{outbound_at, inbound_at, me_of, single, informed, AreOfOthers}

-- the part of a view that has one alone
abbrev pub no_part : Part
no_part = record { node = no_node; schedule = []; outbound = []; inbound = [] }

abbrev pub part_of : View → Part
part_of view = slice_index_or view.parts 0 no_part

-- the size of the machine that the part's node is of
abbrev pub size_in : Part → Size
size_in part = record { nodes = part.node.cache.nodes; lines = lines_of part.node; slots = part.node.cache.slots; limit = part.node.limit }

-- the state where the schedule leads that a part knows
abbrev pub state_of : Part → Core
state_of part = run (size_in part) part.schedule

-- ---- what is shown

-- the oldest packet of a lane, with whose words those found agree as far as both go
pub record IsFront (lane : List Letter) (found : List ℕ) : Type 0 where
  pub packet : Packet
  pub rest : List Letter
  pub front : lane ≡ letter_of packet ∷ rest
  pub good : IsPacket packet
  pub agrees : (k : ℕ) → k < length found → k < length (words_of packet) → slice_index found k ≡ slice_index (words_of packet) k

-- The schedule that a part knows is of events that are enabled when they come, and the state where it leads is one of which it
-- is a part: the node is its node, and what the part knows of lanes is so.
pub record IsShown (part : Part) : Type 0 where
  pub core : Core
  pub reached : IsReached core
  pub leads : state_of part ≡ core
  pub enabled : AreEnabled (size_in part) [] part.schedule
  pub some_node : me_of part < core.size.nodes
  pub here : node_at core (me_of part) ≡ part.node
  pub outbound_long : length part.outbound ≡ lane_count core.size.nodes
  pub inbound_long : length part.inbound ≡ lane_count core.size.nodes
  -- words found are those of the oldest packet
  pub found : (lane : ℕ) → lane < lane_count core.size.nodes → receiver_of core.size.nodes lane ≡ me_of part → 0 < length (inbound_at part lane).found
      → IsFront (lane_at core lane) (inbound_at part lane).found
  -- a cell known empty has room for a packet
  pub vacant : (lane : ℕ) → lane < lane_count core.size.nodes → sender_of core.size.nodes lane ≡ me_of part → (outbound_at part lane).vacant ≡ true
      → length (lane_at core lane) < LANE_CELLS
  -- a lane has a place for each packet
  pub room : (lane : ℕ) → lane < lane_count core.size.nodes → length (lane_at core lane) ≤ LANE_CELLS
  -- the node knows how many packets are in a lane to itself
  pub own : (lane : ℕ) → lane < lane_count core.size.nodes → sender_of core.size.nodes lane ≡ me_of part → receiver_of core.size.nodes lane ≡ me_of part
      → (outbound_at part lane).sent ≡ (inbound_at part lane).taken + length (lane_at core lane)

-- it is one in which a lane has four packets
pub record IsFull (part : Part) (lane : ℕ) : Type 0 where
  pub core : Core
  pub reached : IsReached core
  pub leads : state_of part ≡ core
  pub some_node : me_of part < core.size.nodes
  pub here : node_at core (me_of part) ≡ part.node
  pub four : length (lane_at core lane) ≡ LANE_CELLS

-- some line of a node awaits an answer
pub record SomeLineWaits (node : NodeOf) : Type 0 where
  pub line : ℕ
  pub here : line < lines_of node
  pub waiting : waits (line_of node.cache line).state ≡ true

-- two parts of the node with one number, in machines of one size
pub record IsSameNode (part next : Part) : Type 0 where
  pub me : me_of next ≡ me_of part
  pub sized : size_in next ≡ size_in part

-- An event of the part's node was made: what is known of the schedule goes on by events of other nodes, and then by this one,
-- which is enabled in the state where those lead, and leads on to the state where all lead.
pub record IsMade (part : Part) (event : Event) (schedule : List Event) : Type 0 where
  pub others : List Event
  pub further : schedule ≡ part.schedule ++ others ++ event ∷ []
  pub apart : AreOfOthers (me_of part) others
  pub stepped : stepping (run (size_in part) (part.schedule ++ others)) event ≡ Some (run (size_in part) schedule)

-- the lane from which an event takes a packet
abbrev pub lane_taken : Core → Event → List Letter
lane_taken core (Serve from n) = lane_of core Requests from n
lane_taken core (Refuse from n) = lane_of core Requests from n
lane_taken core (Accept from n) = lane_of core Answers from n
lane_taken core _ = []

-- such an event that took the packet whose words the part has found in a lane: it was the oldest of the event's lane
pub record IsTaken (part : Part) (lane : ℕ) (event : Event) (schedule : List Event) : Type 0 where
  pub made : IsMade part event schedule
  pub packet : Packet
  pub spelled : SpellsInWords packet (inbound_at part lane).found
  pub rest : List Letter
  pub front : lane_taken (run (size_in part) (part.schedule ++ made.others)) event ≡ letter_of packet ∷ rest

-- What each step shows its seat: its view becomes the next part, which is of the same node and of a state, and knows the
-- whole schedule, as far as it has come.
pub record Tells (how : List Event → Type 0) (part next : Part) (seat : Me (Unit {0}) View) : Type 0 where
  pub schedule : List Event
  pub view : seat ≡ (single (informed schedule next), [])
  pub shown : IsShown (informed schedule next)
  pub same : IsSameNode part (informed schedule next)
  pub went : how schedule

-- ---- what the steps of events need

-- this event of the part's node sends the packet that is filled in its next cell but for the first word
pub record IsSending (part : Part) (lane first : ℕ) (event : Event) (next : NodeOf) : Type 0 where
  pub kind : LaneKind
  pub packet : Packet
  pub own : node_of event ≡ me_of part
  pub side_is : side part.node event ≡ Sends kind next (letter_of packet)
  pub target : packet.target < part.node.cache.nodes
  pub lane_is : lane ≡ lane_place part.node.cache.nodes kind (me_of part) packet.target
  pub vacant : (outbound_at part lane).vacant ≡ true
  pub spelled : SpellsInWords packet (first ∷ (outbound_at part lane).filled)

-- this event of the part's node takes the packet whose words were found
pub record IsTaking (part : Part) (lane : ℕ) (event : Event) (next : NodeOf) : Type 0 where
  pub kind : LaneKind
  pub from : ℕ
  pub taking : Letter → Option NodeOf
  pub packet : Packet
  pub own : node_of event ≡ me_of part
  pub side_is : side part.node event ≡ Takes kind from taking
  pub gives : taking (letter_of packet) ≡ Some next
  pub sender : from < part.node.cache.nodes
  pub lane_is : lane ≡ lane_place part.node.cache.nodes kind from (me_of part)
  pub spelled : SpellsInWords packet (inbound_at part lane).found

-- this event changes the part's node alone
pub record IsBeating (part : Part) (event : Event) (next : NodeOf) : Type 0 where
  pub own : node_of event ≡ me_of part
  pub side_is : side part.node event ≡ Changes next
