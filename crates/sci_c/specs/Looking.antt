-- What the calls answer that look at the lines and packets of a node or of a machine.
use Rattle.std.specs.Prelude.{◌≡◌, ◌≢◌, ℕ, ◌<◌, ◌≤◌, ◌%◌, ◌⊎◌, List, length, slice_get, Some, None, is_some, is_none}
use Rattle.sci_words.specs.declared.event.Event.{Event}
use Rattle.sci_cache.specs.Cache.{Letter, line_of}
use Rattle.sci_core.specs.declared.lane.LaneKind.{LaneKind}
use Rattle.sci_core.specs.{Core.{Core, kind_number, lane_of, node_at, stepping}, Node.{NodeOf, home_of, lines_of}}
use Rattle.sci_core.specs.{Obstacles.{obstacle_to}, SharingList.{IsSharingList}}
use Rattle.sci_c_values.specs.declared.{line_states.{SciHeld.{SciHeld}, SciHome.{SciHome}}, operation.SciEvent.{SciEvent}, packet.SciPacket.{SciPacket}}
use Rattle.sci_c_values.specs.{LineStates.{held_struct, home_struct}, Obstacle.{obstacle_number}, Operation.{SaysEvent}, Seen.{SaysLetter}}
use Rattle.sci_c.specs.Written.{StandOver}

-- the state of the node's cache for a line
pub record IsHeldOf (line : ℕ) (c : SciHeld) (node : NodeOf) : Type 0 where
  pub here : line < lines_of node
  pub struct_is : c ≡ held_struct (line_of node.cache line).state

-- the home of the line is here, in this state
pub record IsHomeOf (line : ℕ) (c : SciHome) (node : NodeOf) : Type 0 where
  pub here : line < lines_of node
  pub mine : line % node.cache.nodes ≡ node.cache.me
  pub struct_is : c ≡ home_struct (home_of node line)

-- it is at another node
pub record IsHomeElsewhere (line : ℕ) (node : NodeOf) : Type 0 where
  pub here : line < lines_of node
  pub elsewhere : line % node.cache.nodes ≢ node.cache.me

-- the answer that waits
pub record IsAnswerOf (c : SciPacket) (node : NodeOf) : Type 0 where
  pub letter : Letter
  pub waits : node.waiting ≡ Some letter
  pub says : SaysLetter c letter

-- there is no such node, or it has no such line
abbrev pub HasNoLine : ℕ → ℕ → Core → Type 0
HasNoLine n line machine = (machine.size.nodes ≤ n) ⊎ (lines_of (node_at machine n) ≤ line)

-- the packet at a place of a lane
pub record IsPacketAt (lane : List Letter) (place : ℕ) (c : SciPacket) : Type 0 where
  pub letter : Letter
  pub found : slice_get lane place ≡ Some letter
  pub says : SaysLetter c letter

-- the lane of a kind with this number, from a node to a node
pub record IsLane (number from to : ℕ) (lane : List Letter) (machine : Core) : Type 0 where
  pub kind : LaneKind
  pub number_is : kind_number kind ≡ number
  pub from_here : from < machine.size.nodes
  pub to_here : to < machine.size.nodes
  pub lane_is : lane ≡ lane_of machine kind from to

pub record IsPacketIn (number from to place : ℕ) (c : SciPacket) (machine : Core) : Type 0 where
  pub lane : List Letter
  pub is_lane : IsLane number from to lane machine
  pub packet : IsPacketAt lane place c

-- the lane has no packet there
pub record HasNoPacket (number from to place : ℕ) (machine : Core) : Type 0 where
  pub lane : List Letter
  pub is_lane : IsLane number from to lane machine
  pub none : slice_get lane place ≡ None

-- there is no such lane
abbrev pub HasNoSuchLane : ℕ → ℕ → ℕ → Core → Type 0
HasNoSuchLane number from to machine = (2 ≤ number) ⊎ ((machine.size.nodes ≤ from) ⊎ (machine.size.nodes ≤ to))

-- the sharing list of a line stands over the first bytes
pub record IsSharingOf (line : ℕ) (old new : List ℕ) (used : ℕ) (machine : Core) : Type 0 where
  pub here : line < machine.size.lines
  pub nodes : List ℕ
  pub is_list : IsSharingList machine line nodes
  pub stand : StandOver nodes old new used

-- it has more nodes than there is room
pub record IsLongerSharing (line : ℕ) (old : List ℕ) (used : ℕ) (machine : Core) : Type 0 where
  pub here : line < machine.size.lines
  pub nodes : List ℕ
  pub is_list : IsSharingList machine line nodes
  pub length_is : used ≡ length nodes
  pub more : length old < used

-- what stands in the way of the event that the struct says, and that there is nothing exactly if it is enabled
pub record IsObstacleTo (c : SciEvent) (number : ℕ) (machine : Core) : Type 0 where
  pub event : Event
  pub says : SaysEvent c event
  pub number_is : number ≡ obstacle_number (obstacle_to machine event)
  pub enabled : is_none (obstacle_to machine event) ≡ is_some (stepping machine event)
