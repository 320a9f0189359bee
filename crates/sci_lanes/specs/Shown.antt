-- What words and views show: the state of a machine.
use Rattle.std.specs.Prelude.{◌≡◌, ◌≢◌, ◌++◌, ℕ, suc, ◌+◌, ◌<◌, ◌≤◌, true, false, List, [], ◌∷◌, map, length, replicate, slice_index, slice_index_or}
use Rattle.std.specs.{Prelude.{slice_get, Some}, List.{AllByRecursion, range_with_len}}
use mathlib.Core.Option.{some}
use lib.ListN.{get_elem?}
use Rattle.atomic_table.specs.Table.{State}
use Rattle.sci_words.specs.declared.{event.Event.{Event}, limits.TheConstants.{LANE_CELLS}}
use Rattle.sci_packets.specs.{declared.packet.Packet.{Packet}, Spelling.{IsPacket, words_of}}
use Rattle.sci_cache.specs.Cache.{Letter, letter_of}
use Rattle.sci_core.specs.{Size.{Size}, Node.{opening_node}, Core.{AreEnabled, Core, node_at, node_of, lane_at, run}}
use Rattle.sci_core.specs.Reached.{IsReached}
use Rattle.sci_lanes.specs.declared.view.{Outbound.{Outbound}, Inbound.{Inbound}, Part.{Part}, View.{View}}
use Rattle.sci_lanes.specs.declared.cell.TheConstants.{CELL_WORDS}
use Rattle.sci_lanes.specs.Cells.{lane_count, sender_of, receiver_of, word_at, word_count}

-- ---- what a part knows of a lane

abbrev pub no_outbound : Outbound
no_outbound = record { sent = 0; vacant = false; filled = [] }

abbrev pub no_inbound : Inbound
no_inbound = record { taken = 0; found = [] }

abbrev pub outbound_at : Part → ℕ → Outbound
outbound_at part lane = slice_index_or part.outbound lane no_outbound

abbrev pub inbound_at : Part → ℕ → Inbound
inbound_at part lane = slice_index_or part.inbound lane no_inbound

-- the number of the part's node
abbrev pub me_of : Part → ℕ
me_of part = part.node.cache.me

-- ---- a lane

-- The words of a lane have these packets in its full cells, from the receiver's next cell on; the other cells' first words
-- are 0; and what both ends know is so.
pub record Fits (words : List ℕ) (lane : ℕ) (packets : List Packet) (o : Outbound) (i : Inbound) : Type 0 where
  pub good : (k : ℕ) (p : Packet) → slice_get packets k ≡ Some p → IsPacket p
  pub counted : o.sent ≡ i.taken + length packets
  pub room : length packets ≤ LANE_CELLS
  pub full : (k j : ℕ) (p : Packet) → slice_get packets k ≡ Some p → j < length (words_of p) → word_at words lane (i.taken + k) j ≡ slice_index (words_of p) j
  pub empty : (k : ℕ) → length packets ≤ k → k < LANE_CELLS → word_at words lane (i.taken + k) 0 ≡ 0
  -- the sender knows the next cell empty, and what it has filled there
  pub vacant : o.vacant ≡ true → length packets < LANE_CELLS
  pub unfilled : o.vacant ≡ false → o.filled ≡ []
  pub few_filled : length o.filled < CELL_WORDS
  pub filled : (j : ℕ) → j < length o.filled → word_at words lane o.sent (suc j) ≡ slice_index o.filled j
  -- the receiver has found words of the oldest packet
  pub few_found : length i.found ≤ CELL_WORDS
  pub there : 0 < length i.found → 0 < length packets
  pub found : (j : ℕ) → j < length i.found → word_at words lane i.taken j ≡ slice_index i.found j

-- the lane of a state, as its words and its ends' knowledge show it
pub record ShowsLane (words : List ℕ) (place : ℕ) (lane : List Letter) (o : Outbound) (i : Inbound) : Type 0 where
  pub packets : List Packet
  pub letters : map letter_of packets ≡ lane
  pub fits : Fits words place packets o i

-- ---- views

-- what a seat knows that has one node alone
abbrev pub single : Part → View
single part = record { parts = part ∷ []; words = [] }

-- a node of a machine in which nothing was done yet
abbrev pub opening_part : Size → ℕ → Part
opening_part size n = record {
  node = opening_node n size;
  schedule = [];
  outbound = replicate (lane_count size.nodes) no_outbound;
  inbound = replicate (lane_count size.nodes) no_inbound;
}

-- all of them, which the first seat has
abbrev pub first_view : Size → View
first_view size = record { parts = map (opening_part size) (range_with_len 0 size.nodes); words = [] }

-- ---- schedules

-- no event of this node is among them
abbrev pub AreOfOthers : ℕ → List Event → Type 0
AreOfOthers n events = AllByRecursion (λ e. node_of e ≢ n) events

-- The schedule goes on from what a part knows of it, by events of other nodes alone: so the part knows all of its own, and
-- all that came before the last of these.
pub record IsSeen (part : Part) (schedule : List Event) : Type 0 where
  pub others : List Event
  pub further : schedule ≡ part.schedule ++ others
  pub apart : AreOfOthers (me_of part) others

-- the part, with so much known of the schedule
abbrev pub informed : List Event → Part → Part
informed schedule part = record part { schedule = schedule }

-- ---- the whole

-- a state, the schedule that led there, what each lane's ends know of it, and which seat has each node
pub record Whole : Type 0 where
  pub core : Core
  pub schedule : List Event
  pub outbound : ℕ → Outbound
  pub inbound : ℕ → Inbound
  pub owner : ℕ → ℕ

abbrev pub nodes_of : Whole → ℕ
nodes_of x = x.core.size.nodes

-- a part of a seat's view is so
pub record IsKnown (x : Whole) (seat : ℕ) (part : Part) : Type 0 where
  pub some_node : me_of part < nodes_of x
  pub mine : x.owner (me_of part) ≡ seat
  pub node : node_at x.core (me_of part) ≡ part.node
  pub seen : IsSeen part x.schedule
  pub outbound_long : length part.outbound ≡ lane_count (nodes_of x)
  pub inbound_long : length part.inbound ≡ lane_count (nodes_of x)
  pub outbound : (lane : ℕ) → lane < lane_count (nodes_of x) → sender_of (nodes_of x) lane ≡ me_of part → outbound_at part lane ≡ x.outbound lane
  pub inbound : (lane : ℕ) → lane < lane_count (nodes_of x) → receiver_of (nodes_of x) lane ≡ me_of part → inbound_at part lane ≡ x.inbound lane

-- the words that a seat has read are so, and if it has read some, it has every node
pub record HasRead (x : Whole) (seat : ℕ) (words read : List ℕ) : Type 0 where
  pub no_more : length read ≤ length words
  pub same : (k : ℕ) → k < length read → slice_index words k ≡ slice_index read k
  pub every : 0 < length read → (n : ℕ) → n < nodes_of x → x.owner n ≡ seat

-- the seat that has a node knows it
pub record IsCovered (x : Whole) (views : List View) (n : ℕ) : Type 0 where
  pub view : View
  pub place : ℕ
  pub part : Part
  pub seated : get_elem? views (x.owner n) ≡ some view
  pub there : slice_get view.parts place ≡ Some part
  pub of_node : me_of part ≡ n

-- words and views show the state of a whole
pub record Shows (x : Whole) (words : List ℕ) (views : List View) : Type 0 where
  pub long : length words ≡ word_count (nodes_of x)
  pub lanes : (lane : ℕ) → lane < lane_count (nodes_of x) → ShowsLane words lane (lane_at x.core lane) (x.outbound lane) (x.inbound lane)
  pub known : (seat : ℕ) (view : View) → get_elem? views seat ≡ some view → AllByRecursion (IsKnown x seat) view.parts
  pub covered : (n : ℕ) → n < nodes_of x → IsCovered x views n
  pub read : (seat : ℕ) (view : View) → get_elem? views seat ≡ some view → HasRead x seat words view.words

-- The rule of the table: words and views show the state where one schedule leads, of events that are enabled when they come.
-- Each view knows a beginning of it.
pub record IsKept (size : Size) (s : State (Unit {0}) View) : Type 0 where
  pub whole : Whole
  pub reached : IsReached whole.core
  pub sized : whole.core.size ≡ size
  pub leads : run size whole.schedule ≡ whole.core
  pub enabled : AreEnabled size [] whole.schedule
  pub shown : Shows whole s.words s.views
