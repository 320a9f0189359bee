-- A station's end, before and after steps on words.
use Rattle.std.specs.Prelude.{◌≡◌, ◌≢◌, ℕ, [], ◌∷◌}
use Rattle.sci_cache.specs.Cache.{Letter}
use Rattle.sci_words.specs.declared.event.Event.{Event}
use Rattle.sci_core.specs.{declared.lane.LaneKind.{LaneKind}, Core.{Sends, side}, Node.{NodeOf}}
use Rattle.sci_lanes.specs.{Shown.{inbound_at, IsSeen, outbound_at}, Telling.{IsSameNode, IsShown}}
use Rattle.sci_lanes.specs.{declared.{cell.CellId.{CellId}, view.Part.{Part}}, Ends.{EndOf, IsNextToTake, lane_at_cell}}
use Rattle.sci_packets.specs.{Spelling.{SpellsInWords}, declared.packet.Packet.{Packet}}
use Rattle.sci_station.specs.declared.receiving.Seen.{Seen}

-- an end of the same table, of the same node in a machine of the same size
pub record IsSameEnd (old new : EndOf) : Type 0 where
  pub table : new.table ≡ old.table
  pub node : IsSameNode old.part new.part

-- an end that has made no event: its node is the same, the schedule goes on by events of others alone, and as many packets
-- were sent and taken in each lane
pub record IsStill (old new : EndOf) : Type 0 where
  pub table : new.table ≡ old.table
  pub node : new.part.node ≡ old.part.node
  pub seen : IsSeen old.part new.part.schedule
  pub sent : (lane : ℕ) → (outbound_at new.part lane).sent ≡ (outbound_at old.part lane).sent
  pub taken : (lane : ℕ) → (inbound_at new.part lane).taken ≡ (inbound_at old.part lane).taken

-- the event sends this packet
pub record IsSentBy (node : NodeOf) (e : Event) (kind : LaneKind) (letter : Letter) : Type 0 where
  pub next : NodeOf
  pub side_is : side node e ≡ Sends kind next letter

-- what is known of the packets that come by any other lane than this one is the same
abbrev pub LeavesOthers : ℕ → Part → Part → Type 0
LeavesOthers lane old new = (other : ℕ) → other ≢ lane → inbound_at new other ≡ inbound_at old other

-- the first word of a packet, and no more of it, was found in the next cell of a lane
pub record HasSeen (part : Part) (seen : Seen) : Type 0 where
  pub shown : IsShown part
  pub next : IsNextToTake part seen.cell
  pub found : (inbound_at part (lane_at_cell part seen.cell)).found ≡ seen.first ∷ []

-- the same in the next cell of the lane of a kind from a node
pub record SeesFirst (part : Part) (kind : LaneKind) (from first : ℕ) : Type 0 where
  pub cell : CellId
  pub kind_is : cell.kind ≡ kind
  pub sender_is : cell.sender ≡ from
  pub seen : HasSeen part (record { cell = cell; first = first })

-- all words of this packet were found in a cell, and no more
pub record HasRead (part : Part) (cell : CellId) (packet : Packet) : Type 0 where
  pub shown : IsShown part
  pub next : IsNextToTake part cell
  pub spelled : SpellsInWords packet (inbound_at part (lane_at_cell part cell)).found
