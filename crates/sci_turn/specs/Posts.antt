-- A node's post, as the node's turn sees it: the node, and the lanes as far as they are known there.
use Rattle.std.specs.Prelude.{◌≡◌, ◌≢◌, ◌≤◌, ◌<◌, ℕ, List, [], ◌∷◌, ◌++◌, length, Option, Some, None}
use Rattle.std.specs.List.{AllByRecursion}
use Rattle.sci_words.specs.declared.{limits.TheConstants.{LANE_CELLS}, event.Event.{Event}}
use Rattle.sci_cache.specs.Cache.{Letter}
use Rattle.sci_core.specs.declared.lane.LaneKind.{LaneKind}
use Rattle.sci_core.specs.Core.{Core, IsEnabled, Sends, Takes, lane_of, node_at, node_of, side, stepping}
use Rattle.sci_core.specs.{Node.{NodeOf}, Reached.{IsReached}}

-- The number of the node, the state of the machine as far as it is known, and the schedule as far as it is known; or none
-- if the node has the whole machine while it is at its post, so that no event of another comes in between.
pub record PostOf : Type 0 where
  pub me : ℕ
  pub core : Core
  pub schedule : Option (List Event)

-- the post of a node that has the whole machine for itself
abbrev pub post_at : ℕ → Core → PostOf
post_at n core = record { me = n; core = core; schedule = None }

abbrev pub node_in : PostOf → NodeOf
node_in post = node_at post.core post.me

abbrev pub nodes_in : PostOf → ℕ
nodes_in post = post.core.size.nodes

-- the lane of a kind from a node to this one, and from this one to a node
abbrev pub lane_to : PostOf → LaneKind → ℕ → List Letter
lane_to post kind from = lane_of post.core kind from post.me

abbrev pub lane_from : PostOf → LaneKind → ℕ → List Letter
lane_from post kind to = lane_of post.core kind post.me to

-- the state is one where a schedule leads, and has this node
pub record IsPost (post : PostOf) : Type 0 where
  pub reached : IsReached post.core
  pub some : post.me < nodes_in post

pub record IsSamePost (old new : PostOf) : Type 0 where
  pub me : new.me ≡ old.me
  pub size : new.core.size ≡ old.core.size

-- ---- events

-- what is known of the schedule goes on by these events; where the node has the whole machine, they are all its own
abbrev pub IsFurther : ℕ → Option (List Event) → List Event → Option (List Event) → Type 0
IsFurther n (Some known) more (Some knows) = knows ≡ known ++ more
IsFurther n None more None = AllByRecursion (λ e. node_of e ≡ n) more
IsFurther n _ more _ = ⊥

-- events of others than node n, each enabled when it comes, lead from one state to another
abbrev pub OthersLead : ℕ → Core → List Event → Core → Type 0
OthersLead n old [] new = old ≡ new
OthersLead n old (e ∷ more) new = (next : Core) × (stepping old e ≡ Some next) × (node_of e ≢ n) × OthersLead n next more new

-- the node has made no event: it is the same, and what is known goes on by events of others alone
pub record IsStill (old new : PostOf) : Type 0 where
  pub same : IsSamePost old new
  pub node : node_in new ≡ node_in old
  pub others : List Event
  pub lead : OthersLead old.me old.core others new.core
  pub further : IsFurther old.me old.schedule others new.schedule

-- the node has made this event, after such events of others
pub record IsMade (old : PostOf) (e : Event) (new : PostOf) : Type 0 where
  pub mid : PostOf
  pub still : IsStill old mid
  pub made : stepping mid.core e ≡ Some new.core
  pub same : IsSamePost mid new
  pub further : IsFurther mid.me mid.schedule (e ∷ []) new.schedule

-- ---- what a step needs, and what it tells

-- a packet is the oldest of a lane to the node
abbrev pub IsFront : PostOf → LaneKind → ℕ → Letter → Type 0
IsFront post kind from letter = (rest : List Letter) × (lane_to post kind from ≡ letter ∷ rest)

-- the packet is the oldest of its lane, and this event of the node takes it
pub record MayTake (post : PostOf) (kind : LaneKind) (from : ℕ) (letter : Letter) (e : Event) : Type 0 where
  pub own : node_of e ≡ post.me
  pub front : IsFront post kind from letter
  pub enabled : IsEnabled post.core e
  pub sender : from < nodes_in post
  pub taking : Letter → Option NodeOf
  pub next : NodeOf
  pub side_is : side (node_in post) e ≡ Takes kind from taking
  pub gives : taking letter ≡ Some next

-- the event was made, and took the packet
pub record IsTaken (old : PostOf) (kind : LaneKind) (from : ℕ) (letter : Letter) (e : Event) (new : PostOf) : Type 0 where
  pub made : IsMade old e new
  pub front : IsFront made.mid kind from letter

-- this event of the node takes the oldest packet of a lane
abbrev pub MayTakeFront : PostOf → LaneKind → ℕ → Event → Type 0
MayTakeFront post kind from e = (letter : Letter) × MayTake post kind from letter e

-- the event was made, and took the packet that was the oldest
abbrev pub HasTakenFront : PostOf → LaneKind → ℕ → Event → PostOf → Type 0
HasTakenFront old kind from e new = (letter : Letter) → IsFront old kind from letter → IsTaken old kind from letter e new

-- this event of the node sends the packet
pub record MaySend (post : PostOf) (kind : LaneKind) (letter : Letter) (e : Event) : Type 0 where
  pub own : node_of e ≡ post.me
  pub enabled : IsEnabled post.core e
  pub next : NodeOf
  pub side_is : side (node_in post) e ≡ Sends kind next letter
  pub target : letter.target < nodes_in post

-- the lane of a kind to a node is full
abbrev pub IsFull : PostOf → LaneKind → ℕ → Type 0
IsFull post kind to = LANE_CELLS ≤ length (lane_from post kind to)
