-- An end of the lanes, as its owner sees it, and what each of its calls needs.
use Rattle.std.specs.List.{range_with_len}
use Rattle.std.specs.Prelude.{◌≡◌, ℕ, ◌+◌, ◌-◌, ◌*◌, ◌/◌, ◌%◌, ◌^◌, ◌<◌, ◌≤◌, true, List, [], length, slice_index, map, take, drop, Option, None, Some, ◌∷◌}
use Rattle.atomic_table.specs.{Table.{Me}, Seated.{TableId}}
use Rattle.sci_words.specs.declared.{extent.Extent.{Extent}, event.Event.{Event}}
use Rattle.sci_words.specs.declared.{event.Event.TheVariants.{Issue, Perform, Serve, Refuse, Accept}, operation.Op.{Op}}
use Rattle.sci_words.specs.declared.limits.TheConstants.{LANE_CELLS}
use Rattle.sci_packets.specs.{declared.packet.Packet.{Packet}, Spelling.{SpellsInWords}}
use Rattle.sci_cache.specs.Cache.{Letter, letter_of}
use Rattle.sci_core.specs.{Size.{Size, size_of}, Node.{NodeOf, IsForNode, IsServable, node_issuing, node_performing}}
use Rattle.sci_core.specs.{Work.{IsIssued, IsLogged}, Core.{Side, Changes, Sends, Takes, side, node_of}}
use Rattle.sci_core.specs.declared.lane.LaneKind.{LaneKind}
use Rattle.sci_history.specs.declared.entry.Entry.{Entry}
use Rattle.sci_lanes.specs.declared.{cell.{CellId.{CellId}, TheConstants.{CELL_WORDS}}, view.{Part.{Part}, View.{View}}}
use Rattle.sci_lanes.specs.Cells.{cell_place, lane_count, receiver_of, lane_number, word_count}
use Rattle.sci_lanes.specs.Shown.{outbound_at, inbound_at, me_of, single, informed, IsSeen, opening_part}
use Rattle.sci_lanes.specs.Knowing.{looked, filled, read, published, freed, with_node_known}
use Rattle.sci_lanes.specs.Telling.{part_of, size_in, IsMade, IsShown}

-- which table it is of, and what it knows
pub record EndOf : Type 0 where
  pub table : TableId
  pub part : Part

abbrev pub with_part : EndOf → Part → EndOf
with_part end part = record { table = end.table; part = part }

-- how many nodes there are
abbrev pub nodes_in : Part → ℕ
nodes_in part = part.node.cache.nodes

-- the number of the lane of a cell
abbrev pub lane_at_cell : Part → CellId → ℕ
lane_at_cell part cell = lane_number (nodes_in part) cell

-- ---- an end after each call

-- a cell was looked at, and this word found
abbrev pub looked_at : CellId → ℕ → EndOf → EndOf
looked_at cell word end = with_part end (looked (lane_at_cell end.part cell) cell.number word end.part)

-- a word of a cell was filled
abbrev pub filled_at : CellId → ℕ → ℕ → EndOf → EndOf
filled_at cell index word end = with_part end (filled (lane_at_cell end.part cell) index word end.part)

-- a word of a cell was read, and this one found
abbrev pub read_at : CellId → ℕ → ℕ → EndOf → EndOf
read_at cell index word end = with_part end (read (lane_at_cell end.part cell) index word end.part)

-- a packet was published in a cell, after which the node is this one
abbrev pub published_at : CellId → NodeOf → EndOf → EndOf
published_at cell node end = with_part end (published (lane_at_cell end.part cell) node end.part)

-- a cell was freed, after which the node is this one
abbrev pub freed_at : CellId → NodeOf → EndOf → EndOf
freed_at cell node end = with_part end (freed (lane_at_cell end.part cell) node end.part)

-- the node became this one
abbrev pub beaten : NodeOf → EndOf → EndOf
beaten node end = with_part end (with_node_known node end.part)

-- the end, with so much known of the schedule
abbrev pub informed_at : List Event → EndOf → EndOf
informed_at schedule end = with_part end (informed schedule end.part)

-- ---- the next cells

-- the cell into which the part's node sends next in its lane
pub record IsNextToSend (part : Part) (cell : CellId) : Type 0 where
  pub mine : cell.sender ≡ me_of part
  pub other : cell.receiver < nodes_in part
  pub next : cell.number ≡ (outbound_at part (lane_at_cell part cell)).sent % LANE_CELLS

-- the cell from which it takes next
pub record IsNextToTake (part : Part) (cell : CellId) : Type 0 where
  pub mine : cell.receiver ≡ me_of part
  pub other : cell.sender < nodes_in part
  pub next : cell.number ≡ (inbound_at part (lane_at_cell part cell)).taken % LANE_CELLS

-- where a cell begins in the table; the number is small, so that those of its words can be added
pub record IsPlaceOf (part : Part) (cell : CellId) (place : ℕ) : Type 0 where
  pub begins : place ≡ cell_place (lane_number (nodes_in part) cell) cell.number
  pub few : place < 2 ^ 32

-- the next cell of a lane to the node was looked at, and this word found
pub record LooksFor (kind : LaneKind) (from word : ℕ) (old new : EndOf) : Type 0 where
  pub cell : CellId
  pub kind_is : cell.kind ≡ kind
  pub sender_is : cell.sender ≡ from
  pub next : IsNextToTake old.part cell
  pub looked : new ≡ informed_at new.part.schedule (looked_at cell word old)
  pub seen : IsSeen old.part new.part.schedule

-- ---- what is known where a step is made

-- a further word of the next cell may be filled: it is empty, and the words before this one are filled
pub record MayFill (part : Part) (cell : CellId) (index : ℕ) : Type 0 where
  pub next : IsNextToSend part cell
  pub vacant : (outbound_at part (lane_at_cell part cell)).vacant ≡ true
  pub further : 0 < index
  pub within : index < CELL_WORDS
  pub order : index ≤ length (outbound_at part (lane_at_cell part cell)).filled + 1

-- a further word of the next cell may be read: the words before this one are found
pub record MayRead (part : Part) (cell : CellId) (index : ℕ) : Type 0 where
  pub next : IsNextToTake part cell
  pub further : 0 < index
  pub within : index < CELL_WORDS
  pub order : index ≤ length (inbound_at part (lane_at_cell part cell)).found

-- the event is this node's, and sends the packet whose words after the first are filled in the next cell
pub record MayPublish (part : Part) (cell : CellId) (first : ℕ) (event : Event) : Type 0 where
  pub next : IsNextToSend part cell
  pub vacant : (outbound_at part (lane_at_cell part cell)).vacant ≡ true
  pub own : node_of event ≡ me_of part
  pub packet : Packet
  pub after : NodeOf
  pub side_is : side part.node event ≡ Sends cell.kind after (letter_of packet)
  pub target : packet.target ≡ cell.receiver
  pub spelled : SpellsInWords packet (first ∷ (outbound_at part (lane_at_cell part cell)).filled)

-- the event is this node's, and takes the packet whose words were found in the next cell
pub record MayFree (part : Part) (cell : CellId) (event : Event) : Type 0 where
  pub next : IsNextToTake part cell
  pub own : node_of event ≡ me_of part
  pub packet : Packet
  pub taking : Letter → Option NodeOf
  pub after : NodeOf
  pub side_is : side part.node event ≡ Takes cell.kind cell.sender taking
  pub gives : taking (letter_of packet) ≡ Some after
  pub spelled : SpellsInWords packet (inbound_at part (lane_at_cell part cell)).found

-- the event is this node's, and changes it alone
pub record MayBeat (part : Part) (event : Event) : Type 0 where
  pub own : node_of event ≡ me_of part
  pub after : NodeOf
  pub side_is : side part.node event ≡ Changes after

-- ---- nodes after events

-- the node after an event that takes no packet
abbrev pub node_after : NodeOf → Side → NodeOf
node_after node (Changes next) = next
node_after node (Sends kind next letter) = next
node_after node _ = node

-- an end's node after such an event
abbrev pub after_event : EndOf → Event → NodeOf
after_event end event = node_after end.part.node (side end.part.node event)

-- an end's node has issued an operation, with this serial
pub record HasIssued (old : EndOf) (op : Op) (serial : ℕ) (new : EndOf) : Type 0 where
  pub issued : node_issuing old.part.node op ≡ Some new.part.node
  pub numbered : serial ≡ old.part.node.issued
  pub pending : IsIssued old.part.node new.part.node op
  pub made : IsMade old.part (Issue (me_of old.part) op) new.part.schedule
  pub rest : new ≡ informed_at new.part.schedule (beaten new.part.node old)

-- an end's node has performed the operation that was pending on a line, with this entry
pub record HasPerformed (old : EndOf) (line : ℕ) (entry : Entry) (new : EndOf) : Type 0 where
  pub performed : node_performing old.part.node line ≡ Some (new.part.node, entry)
  pub logged : IsLogged old.part.node new.part.node line entry
  pub made : IsMade old.part (Perform (me_of old.part) line) new.part.schedule
  pub rest : new ≡ informed_at new.part.schedule (beaten new.part.node old)

-- what becomes of a node that takes a packet
abbrev pub taken_by : Side → Letter → Option NodeOf
taken_by (Takes kind from taking) letter = taking letter
taken_by _ letter = None

-- the event sends a packet
abbrev pub SendsPacket : Side → Type 0
SendsPacket (Sends kind next letter) = Unit {0}
SendsPacket _ = ⊥

-- a packet that the event may take at a node
abbrev pub MayBeGiven : Event → NodeOf → Letter → Type 0
MayBeGiven (Serve from n) node letter = IsServable node letter
MayBeGiven (Refuse from n) node letter = IsServable node letter
MayBeGiven (Accept from n) node letter = IsForNode node letter
MayBeGiven _ node letter = Unit {0}

-- ---- inside

-- A seat that has one node: its table's key and name, the table that the seat is of, and what it knows and holds.
pub record IsSeated (key : Extent × ℕ) (table seat : TableId) (knows : Me (Unit {0}) View) : Type 0 where
  pub same : seat ≡ table
  pub long : table.words ≡ word_count key.0.nodes
  pub seated : knows ≡ (single (part_of knows.0), [])
  pub shown : IsShown (part_of knows.0)
  pub sized : size_in (part_of knows.0) ≡ size_of key.0 key.1

-- How the fields of an end fit together: what it knows, its node, its number, how many nodes there are, for each lane the
-- next cell to send into, and for each lane to it the next cell to take from.
pub record FitsInside (part : Part) (node : NodeOf) (me nodes : ℕ) (turns inbox_turns : List ℕ) : Type 0 where
  pub shown : IsShown part
  pub node_is : node ≡ part.node
  pub me_is : me ≡ me_of part
  pub nodes_is : nodes ≡ nodes_in part
  pub some_node : me < nodes
  pub outbound_long : length part.outbound ≡ lane_count nodes
  pub inbound_long : length part.inbound ≡ lane_count nodes
  pub turns_long : length turns ≡ lane_count nodes
  pub inbox_turns_long : length inbox_turns ≡ 2 * nodes
  pub turns_are : (lane : ℕ) → lane < lane_count nodes → slice_index turns lane ≡ (outbound_at part lane).sent % LANE_CELLS
  pub taken_are : (lane : ℕ) → lane < lane_count nodes → receiver_of nodes lane ≡ me
      → slice_index inbox_turns (lane / nodes) ≡ (inbound_at part lane).taken % LANE_CELLS

-- where the next cell to take from begins in the table, for each lane to the node
pub record ArePlaces (nodes me : ℕ) (inbox_turns places : List ℕ) : Type 0 where
  pub long : length places ≡ 2 * nodes
  pub are : (inbox : ℕ) → inbox < 2 * nodes → slice_index places inbox ≡ cell_place (inbox * nodes + me) (slice_index inbox_turns inbox)

-- ---- the whole table

-- which table it is, and the size of its machine
pub record LanesOf : Type 0 where
  pub table : TableId
  pub size : Size

-- the ends of a table in which nothing was done yet, those of the first nodes
abbrev pub opening_ends : TableId → Size → ℕ → List EndOf
opening_ends table size count = map (λ n. record { table = table; part = opening_part size n }) (range_with_len 0 count)

-- what a seat knows that has the nodes from this one on
abbrev pub rest_view : Size → ℕ → View
rest_view size n = record { parts = map (opening_part size) (range_with_len n (size.nodes - n)); words = [] }

-- what a seat knows that has no node
abbrev pub no_view : View
no_view = record { parts = []; words = [] }

abbrev pub first_off : View → View
first_off view = record { parts = drop 1 view.parts; words = [] }

abbrev pub first_only : View → View
first_only view = record { parts = take 1 view.parts; words = [] }

-- the table with a seat that has no node
pub record IsRoot (key : Extent × ℕ) (table seat : TableId) (knows : Me (Unit {0}) View) (extent : Extent) (limit : ℕ) : Type 0 where
  pub key_is : key ≡ (extent, limit)
  pub same : seat ≡ table
  pub long : table.words ≡ word_count extent.nodes
  pub spent : knows ≡ (no_view, [])
