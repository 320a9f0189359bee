-- Gathering: all ends are joined, and the state that their lanes show is read.
use Rattle.std.specs.Prelude.{◌≡◌, ℕ, ◌+◌, ◌*◌, ◌/◌, ◌%◌, ◌<◌, ◌≤◌, ◌⊎◌, List, [], ◌∷◌, ◌++◌, filter, length, map, slice_get, slice_index, slice_index_or}
use Rattle.std.specs.{Prelude.{Some, Vec, vec_len, vec_capacity}, List.{AllByRecursion}}
use Rattle.std.specs.VecDeque.{deque_len, deque_capacity}
use Rattle.atomic_table.specs.Table.{Me, Step}
use Rattle.sci_history.specs.{declared.entry.Entry.{Entry}, Placed.{is_of_node, log_of}}
use Rattle.sci_words.specs.declared.{stamped.Stamped.{Stamped}, event.Event.{Event}}
use Rattle.sci_words.specs.declared.limits.TheConstants.{LANE_CELLS, MAX_NODES}
use Rattle.sci_packets.specs.{declared.packet.Packet.{Packet}, Spelling.{IsPacket, words_of}}
use Rattle.sci_cache.specs.Cache.{Letter, letter_of}
use Rattle.sci_core.specs.{Size.{Size}, Node.{NodeOf, no_node}, Core.{AreEnabled, Core, node_at, lane_at, run}, Done.{done}}
use Rattle.sci_core.specs.{Reached.{IsReached}, Outcome.{logs_of}, Sharing.{last_of}}
use Rattle.sci_lanes.specs.declared.{gather.Room.{Room}, view.{Inbound.{Inbound}, Outbound.{Outbound}, Part.{Part}}}
use Rattle.sci_lanes.specs.{declared.view.View.{View}, Cells.{lane_count, receiver_of, word_count}}
use Rattle.sci_lanes.specs.Shown.{Fits, ShowsLane, Whole, nodes_of, me_of, inbound_at, IsKnown, IsSeen, HasRead}
use Rattle.sci_lanes.specs.{Telling.{no_part, size_in}, Ends.{EndOf, LanesOf}}

-- ---- the ends that are given

-- an end of these lanes: of their table, and of a machine of their size
pub record IsOf (lanes : LanesOf) (end : EndOf) : Type 0 where
  pub table : end.table ≡ lanes.table
  pub sized : size_in end.part ≡ lanes.size

abbrev pub AreOf : LanesOf → List EndOf → Type 0
AreOf lanes ends = (place : ℕ) (end : EndOf) → slice_get ends place ≡ Some end → IsOf lanes end

-- an end has this number
pub record HasEndOf (ends : List EndOf) (n : ℕ) : Type 0 where
  pub place : ℕ
  pub end : EndOf
  pub there : slice_get ends place ≡ Some end
  pub numbered : me_of end.part ≡ n

-- they are the ends of all nodes of a machine, each once
pub record AreAll (nodes : ℕ) (ends : List EndOf) : Type 0 where
  pub count : length ends ≡ nodes
  pub every : (n : ℕ) → n < nodes → HasEndOf ends n

-- ---- what comes out

-- each node's log has the entries that its own events of a schedule make, in their order
abbrev pub AreMadeBy : Size → List Event → List (List Entry) → Type 0
AreMadeBy size schedule logs = (n : ℕ) → n < MAX_NODES → log_of logs n ≡ filter (is_of_node n) (done size schedule)

-- a state where one schedule of enabled events leads a machine of this size
pub record IsLedTo (size : Size) (core : Core) : Type 0 where
  pub reached : IsReached core
  pub sized : core.size ≡ size
  pub schedule : List Event
  pub leads : run size schedule ≡ core
  pub enabled : AreEnabled size [] schedule

-- Such a state whose nodes are those of the ends. Each end knows a beginning of the schedule, after which no event of its node
-- comes.
pub record IsStateOf (size : Size) (ends : List EndOf) (core : Core) : Type 0 where
  pub led : IsLedTo size core
  pub seen : (place : ℕ) (end : EndOf) → slice_get ends place ≡ Some end → IsSeen end.part led.schedule
  pub nodes : (place : ℕ) (end : EndOf) → slice_get ends place ≡ Some end → node_at core (me_of end.part) ≡ end.part.node

-- its logs, which are what the schedule makes, and its last contents
pub record AreGathered (size : Size) (ends : List EndOf) (logs : List (List Entry)) (last : List Stamped) : Type 0 where
  pub core : Core
  pub state : IsStateOf size ends core
  pub logs_are : logs ≡ logs_of core
  pub made : AreMadeBy size state.led.schedule logs
  pub last_are : last ≡ last_of core

-- each end's log is its node's
abbrev pub HaveLogs : List EndOf → List (List Entry) → Type 0
HaveLogs ends logs = (place : ℕ) (end : EndOf) → slice_get ends place ≡ Some end → log_of logs (me_of end.part) ≡ end.part.node.log

-- ---- steps

-- what two seats know together
abbrev pub both_views : View → View → View
both_views view other = record { parts = view.parts ++ other.parts; words = [] }

-- a part joins those that a seat has
abbrev pub joined_with : Part → View → View
joined_with part view = record { parts = view.parts ++ part ∷ []; words = [] }

-- one word more was read
abbrev pub read_more : ℕ → View → View
read_more word view = record view { words = view.words ++ word ∷ [] }

-- a state that some words show, the first of which a seat has read that has each node
pub record IsReadOff (view : View) : Type 0 where
  pub whole : Whole
  pub seat : ℕ
  pub words : List ℕ
  pub reached : IsReached whole.core
  pub leads : run whole.core.size whole.schedule ≡ whole.core
  pub enabled : AreEnabled whole.core.size [] whole.schedule
  pub long : length words ≡ word_count (nodes_of whole)
  pub lanes : (lane : ℕ) → lane < lane_count (nodes_of whole) → ShowsLane words lane (lane_at whole.core lane) (whole.outbound lane) (whole.inbound lane)
  pub known : AllByRecursion (IsKnown whole seat) view.parts
  pub read : HasRead whole seat words view.words

pub record GathersFrom (view : View) (word : ℕ) (after : Me (Unit {0}) View) : Type 0 where
  pub more : after ≡ (read_more word view, [])
  pub read : IsReadOff after.0

abbrev pub Gathers : Step (Unit {0}) → Me (Unit {0}) View → ℕ → Me (Unit {0}) View → Type 0
Gathers s before word after = GathersFrom before.0 word after

-- ---- inside

-- each node of a machine of this size is among the parts
abbrev pub HasNodes : ℕ → List Part → Type 0
HasNodes nodes parts = (n : ℕ) → n < nodes → (place : ℕ) × (part : Part) × (slice_get parts place ≡ Some part) × (me_of part ≡ n)

-- for each lane to a node, the number of the cell to take from
pub record HasTurns (nodes : ℕ) (part : Part) (inbox_turns : List ℕ) : Type 0 where
  pub long : length inbox_turns ≡ 2 * nodes
  pub turns : (lane : ℕ) → lane < lane_count nodes → receiver_of nodes lane ≡ me_of part
      → slice_index inbox_turns (lane / nodes) ≡ (inbound_at part lane).taken % LANE_CELLS

module _ {Z : Type 0} where
  -- the node with this number, among those that were joined
  pub record IsJoinedAt (all : ℕ) (parts : List Part) (nodes : List NodeOf) (inbox_turns : List (Vec ℕ Z)) (n : ℕ) : Type 0 where
    pub numbered : me_of (slice_index_or parts n no_part) ≡ n
    pub node : slice_index_or nodes n no_node ≡ (slice_index_or parts n no_part).node
    pub turns : (v : Vec ℕ Z) → v ≡ slice_index_or inbox_turns n v → HasTurns all (slice_index_or parts n no_part) v.items

  -- the nodes below a number were joined, in their order
  pub record AreJoined (all count : ℕ) (parts : List Part) (nodes : List NodeOf) (inbox_turns : List (Vec ℕ Z)) : Type 0 where
    pub parts_long : length parts ≡ count
    pub nodes_long : length nodes ≡ count
    pub inbox_turns_long : length inbox_turns ≡ count
    pub each : (n : ℕ) → n < count → IsJoinedAt all parts nodes inbox_turns n

-- each end that was given is still there, or what it knows was joined
abbrev pub AreKept : List EndOf → List EndOf → List Part → Type 0
AreKept ends left parts = (place : ℕ) (end : EndOf) → slice_get ends place ≡ Some end
    → ((k : ℕ) × (slice_get left k ≡ Some end)) ⊎ ((me_of end.part < length parts) × (slice_index_or parts (me_of end.part) no_part ≡ end.part))

-- a vector with nothing in it that has room for this many
abbrev pub HasRoom : {X Z : Type 0} → ℕ → Vec X Z → Type 0
HasRoom count v = (v.items ≡ []) × (vec_len v ≡ 0) × (count ≤ vec_capacity v)

-- there are no packets yet, and there is room for those of a lane
abbrev pub HasFour : List Packet → ℕ → ℕ → Type 0
HasFour items count capacity = (items ≡ []) × (count ≡ 0) × (LANE_CELLS ≤ capacity)

-- the words of a packet begin at this place
pub record IsPacketAt (words : List ℕ) (place : ℕ) (packet : Packet) : Type 0 where
  pub good : IsPacket packet
  pub within : place + length (words_of packet) ≤ length words
  pub same : (j : ℕ) → j < length (words_of packet) → slice_index words (place + j) ≡ slice_index (words_of packet) j

-- memory for a gathering, in which nothing is yet
pub record IsFresh (count : ℕ) (room : Room) : Type 0 where
  pub nodes : HasRoom count room.nodes
  pub inbox_turns : HasRoom count room.inbox_turns
  pub words : HasRoom (word_count count) room.words
  pub lanes : HasRoom (lane_count count) room.lanes
  pub packets_long : length room.packets.items ≡ lane_count count
  pub packets : AllByRecursion (λ q. HasFour q.items (deque_len q) (deque_capacity q)) room.packets.items

module _ {Z : Type 0} where
  -- the number of the cell of a lane to take from is this one
  abbrev pub TakesFrom : ℕ → List (Vec ℕ Z) → ℕ → ℕ → Type 0
  TakesFrom nodes inbox_turns lane number = (v : Vec ℕ Z) → v ≡ slice_index_or inbox_turns (lane % nodes) v → slice_index v.items (lane / nodes) ≡ number

  -- each node has such a number for each lane to it
  abbrev pub HaveInboxTurns : ℕ → List (Vec ℕ Z) → Type 0
  HaveInboxTurns nodes inbox_turns = (n : ℕ) (v : Vec ℕ Z) → n < nodes → v ≡ slice_index_or inbox_turns n v → length v.items ≡ 2 * nodes

  -- the packets of the first lanes, whatever the words show there
  pub record AreLanes (nodes : ℕ) (words : List ℕ) (inbox_turns : List (Vec ℕ Z)) (count : ℕ) (lanes : List (List Letter)) : Type 0 where
    pub long : length lanes ≡ count
    pub each : (lane : ℕ) (packets : List Packet) (o : Outbound) (i : Inbound) → lane < count → Fits words lane packets o i
        → TakesFrom nodes inbox_turns lane (i.taken % LANE_CELLS) → slice_index_or lanes lane [] ≡ map letter_of packets
