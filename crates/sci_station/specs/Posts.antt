-- A station's end of the lanes as its node's post, and what the node remembers of them.
use Rattle.std.specs.Prelude.{◌≡◌, ◌≢◌, ◌<◌, ◌≤◌, ◌+◌, ◌==◌, ℕ, Bool, true, false, List, length, slice_index, slice_index_or, Option, None, Some}
use Rattle.sci_packets.specs.declared.packet.Packet.{Packet}
use Rattle.sci_core.specs.declared.lane.LaneKind.{LaneKind, TheVariants.{Answers, Requests}}
use Rattle.sci_core.specs.{Core.{Core, lane_of, node_at}, Draining.{one_if}}
use Rattle.sci_cache.specs.Cache.{Letter}
use Rattle.sci_lanes.specs.{declared.cell.CellId.{CellId}, Ends.{EndOf, nodes_in}, Shown.{me_of}}
use Rattle.sci_lanes.specs.Telling.{IsShown, state_of}
use Rattle.sci_turn.specs.Posts.{PostOf}
use Rattle.sci_station.specs.Ends.{HasRead}

abbrev pub post_of : EndOf → PostOf
post_of end = record { me = me_of end.part; core = state_of end.part; schedule = Some end.part.schedule }

-- ---- answers that are owed

-- the answer that waits at a node, if one does, goes to this one
abbrev pub answers_to : Option Letter → ℕ → Bool
answers_to None n = false
answers_to (Some answer) n = answer.target == n

-- how many answers a node owes to node n: to requests that it has not taken yet, the one that waits for room, and those
-- that are under way
abbrev pub owed : Core → ℕ → ℕ → ℕ
owed core n other = length (lane_of core Requests n other) + (one_if (answers_to (node_at core other).waiting n) + length (lane_of core Answers other n))

-- ---- packets that were read

-- the answer that was read last, of each node the request that was read last, and whether it is kept
pub record KeptOf : Type 0 where
  pub marks : List Bool
  pub requests : List (Option Packet)
  pub answer : Option Packet

-- whether a packet from a node is kept: a request alone is
abbrev pub is_kept : KeptOf → LaneKind → ℕ → Bool
is_kept kept Answers from = false
is_kept kept Requests from = slice_index_or kept.marks from false

-- the packet that was read last in the lane of a kind from a node
abbrev pub packet_in : KeptOf → LaneKind → ℕ → Option Packet
packet_in kept Answers from = kept.answer
packet_in kept Requests from = slice_index_or kept.requests from None

-- it is the oldest of the lane, all its words are found, and it wasn't taken
pub record IsRead (end : EndOf) (kept : KeptOf) (kind : LaneKind) (from : ℕ) : Type 0 where
  pub packet : Packet
  pub there : packet_in kept kind from ≡ Some packet
  pub cell : CellId
  pub kind_is : cell.kind ≡ kind
  pub sender_is : cell.sender ≡ from
  pub read : HasRead end.part cell packet

-- ---- the post

pub record StationPostOf : Type 0 where
  pub end : EndOf
  pub unanswered : List ℕ
  pub kept : KeptOf
  pub left : Option ℕ

-- What is remembered is so: the count of a node is the number of answers that it owes, and a packet that is kept is of
-- another node, and the oldest of its lane.
pub record Remembers (end : EndOf) (unanswered : List ℕ) (kept : KeptOf) : Type 0 where
  pub shown : IsShown end.part
  pub owing : (node : ℕ) → node < nodes_in end.part → slice_index unanswered node ≡ owed (state_of end.part) (me_of end.part) node
  pub no_more : (node : ℕ) → nodes_in end.part ≤ node → slice_index unanswered node ≡ 0
  pub keeps : (kind : LaneKind) (node : ℕ) → is_kept kept kind node ≡ true → (node ≢ me_of end.part) × IsRead end kept kind node
