-- A turn of a node: what it does with the packets that have come, and what it sends.
use Rattle.std.specs.Prelude.{◌≡◌, ◌≢◌, ◌⊎◌, ◌+◌, ◌<◌, ℕ, zero, suc, List, length, slice_get, slice_set, Option, Some, None}
use Rattle.sci_words.specs.declared.event.AskKind.{AskKind}
use Rattle.sci_packets.specs.declared.packet.Packet.{Packet}
use Rattle.sci_cache.specs.Cache.{Letter, letter_of}
use Rattle.sci_core.specs.Node.{NodeOf, node_asking, node_replying}
use Rattle.sci_policy.specs.Policy.{decided, next_policy, next_wanted, turned}
use Rattle.sci_policy.specs.declared.{decision.Decision.{Decision}, want.Want.{Want, TheVariants.{Perform, Ask}}}
use Rattle.sci_policy.specs.declared.decision.Decision.TheVariants as decision
use Rattle.sci_c_values.specs.declared.{packet.SciPacket.{SciPacket}, want.SciWant.{SciWant}}
use Rattle.sci_c_values.specs.{Packet.{SaysPacket}, Saying.{SaysNone}, Seen.{SaysLetter}, Want.{want_struct}}
use Rattle.sci_c.specs.declared.{controller.Controller.{Controller}, taking.Taking.{Taking, TheVariants.{Serve, Refuse, Accept}}, turning.TheConstants.{ASKS}}
use Rattle.sci_c.specs.Taking.{IsAnswerFor, IsRequestFor, accepting_asked, noting, node_taking}

-- where a turn stands: the node with its policy, the marks of what was taken, and the room with the packets that were sent
pub record Stage : Type 0 where
  pub controller : Controller
  pub taken : List ℕ
  pub room : List SciPacket
  pub used : ℕ

abbrev pub stage : Controller → List ℕ → List SciPacket → ℕ → Stage
stage controller taken room used = record { controller = controller; taken = taken; room = room; used = used }

abbrev pub with_node : Controller → NodeOf → Controller
with_node controller node = record controller { node = node }

-- a packet is sent: it stands at the next place of the room
pub record Sends (letter : Letter) (room : List SciPacket) (used : ℕ) (room' : List SciPacket) (used' : ℕ) : Type 0 where
  pub sent : SciPacket
  pub says : SaysLetter sent letter
  pub put : room' ≡ slice_set room used sent
  pub one_more : used' ≡ used + 1

-- nothing is sent
pub record SendsNone (room : List SciPacket) (used : ℕ) (room' : List SciPacket) (used' : ℕ) : Type 0 where
  pub same_room : room' ≡ room
  pub same_used : used' ≡ used

-- ---- one thing after another

-- the answer that waits goes out, if one does
pub record RepliesWith (answer : Letter) (old new : Stage) : Type 0 where
  pub replied : node_replying old.controller.node ≡ Some (new.controller.node, answer)
  pub policy : new.controller.policy ≡ old.controller.policy
  pub sends : Sends answer old.room old.used new.room new.used
  pub marks : new.taken ≡ old.taken

abbrev pub Replies : Stage → Stage → Type 0
Replies old new = ((answer : Letter) × RepliesWith answer old new) ⊎ ((node_replying old.controller.node ≡ None) × (new ≡ old))

-- a struct says an answer that the node accepts
pub record HasAccepted (c : SciPacket) (before after : Controller) : Type 0 where
  pub packet : Packet
  pub says : SaysPacket c packet
  pub may : IsAnswerFor before.node (letter_of packet)
  pub accepted : accepting_asked before.node (letter_of packet) ≡ Some after.node
  pub policy : after.policy ≡ before.policy

-- it says none, or none that the node accepts
pub record LeavesAnswer (c : SciPacket) (controller : Controller) : Type 0 where
  pub leaves : SaysNone (SaysPacket c) ⊎ ((packet : Packet) × SaysPacket c packet
      × (IsAnswerFor controller.node (letter_of packet) → accepting_asked controller.node (letter_of packet) ≡ None))

-- the mark says whether it was accepted
abbrev pub AcceptsStruct : SciPacket → Controller → Controller → ℕ → Type 0
AcceptsStruct c before after mark = ((mark ≡ 1) × HasAccepted c before after) ⊎ ((mark ≡ 0) × LeavesAnswer c before × (after ≡ before))

-- what the policy decides, as what the node does
abbrev pub decision_of : Taking → Decision
decision_of Serve = decision.Serve
decision_of Refuse = decision.Refuse
decision_of Accept = decision.Keep

-- a request is served or refused, as the policy decides, and noted
pub record HasDone (taking : Taking) (letter : Letter) (before after : Controller) : Type 0 where
  pub request : taking ≢ Accept
  pub decides : decided before.policy before.node letter ≡ decision_of taking
  pub taken : node_taking taking before.node letter ≡ Some after.node
  pub noted : after.policy ≡ noting letter before.policy

-- it is kept by the policy, or an answer waits
abbrev pub Keeps : Letter → Controller → Type 0
Keeps letter controller = (decided controller.policy controller.node letter ≡ decision.Keep)
    ⊎ ((taking : Taking) × (decided controller.policy controller.node letter ≡ decision_of taking) × (node_taking taking controller.node letter ≡ None))

-- a struct says a request that the node serves or refuses, and the answer goes out
pub record HasTakenStruct (c : SciPacket) (old new : Stage) : Type 0 where
  pub packet : Packet
  pub says : SaysPacket c packet
  pub may : IsRequestFor old.controller.node (letter_of packet)
  pub taking : Taking
  pub mid : Controller
  pub done : HasDone taking (letter_of packet) old.controller mid
  pub replies : Replies (record old { controller = mid }) new

-- it says none, or one that isn't for the node or stays where it is
pub record LeavesRequest (c : SciPacket) (controller : Controller) : Type 0 where
  pub leaves : SaysNone (SaysPacket c) ⊎ ((packet : Packet) × SaysPacket c packet
      × (IsRequestFor controller.node (letter_of packet) → Keeps (letter_of packet) controller))

-- ---- all of them, in the order in which they stand

-- the first so many, one after another
abbrev pub UpTo : (ℕ → Stage → Stage → Type 0) → ℕ → Stage → Stage → Type 0
UpTo One zero old new = old ≡ new
UpTo One (suc i) old new = (mid : Stage) × UpTo One i old mid × One i mid new

-- an answer is accepted or left, and its mark says which
pub record AcceptsAt (came : List SciPacket) (i : ℕ) (old new : Stage) : Type 0 where
  pub c : SciPacket
  pub stands : slice_get came i ≡ Some c
  pub mark : ℕ
  pub accepts : AcceptsStruct c old.controller new.controller mark
  pub marked : new.taken ≡ slice_set old.taken i mark
  pub none_sent : SendsNone old.room old.used new.room new.used

-- a request is taken, which its mark says then, or left
pub record TakesAt (came : List SciPacket) (i : ℕ) (old new : Stage) : Type 0 where
  pub c : SciPacket
  pub stands : slice_get came i ≡ Some c
  pub takes : ((mid : Stage) × HasTakenStruct c old mid × (new ≡ record mid { taken = slice_set mid.taken i 1 }))
      ⊎ (LeavesRequest c old.controller × (new ≡ old))

-- the node asks what its policy wants
pub record Asks (i : ℕ) (old new : Stage) : Type 0 where
  pub line : ℕ
  pub kind : AskKind
  pub request : Letter
  pub wants : next_wanted old.controller.policy old.controller.node ≡ Some (Ask line kind)
  pub asked : node_asking old.controller.node line kind ≡ Some (new.controller.node, request)
  pub policy : new.controller.policy ≡ next_policy old.controller.policy old.controller.node
  pub sends : Sends request old.room old.used new.room new.used
  pub marks : new.taken ≡ old.taken

-- the policy was asked, and wants to ask nothing
abbrev pub IsNoAsk : Option Want → Type 0
IsNoAsk None = Unit {0}
IsNoAsk (Some (Perform line)) = Unit {0}
IsNoAsk (Some (Ask line kind)) = ⊥

pub record EndsAsking (c : SciWant) (old new : Stage) : Type 0 where
  pub wants : IsNoAsk (next_wanted old.controller.policy old.controller.node)
  pub struct_is : c ≡ want_struct (next_wanted old.controller.policy old.controller.node)
  pub policy : new ≡ record old { controller = record old.controller { policy = next_policy old.controller.policy old.controller.node } }

-- it asks up to four times, and fewer only if it wants to ask no more
pub record AsksSome (c : SciWant) (old new : Stage) : Type 0 where
  pub count : ℕ
  pub mid : Stage
  pub asked : UpTo Asks count old mid
  pub ends : ((count ≡ ASKS) × (new ≡ mid) × (c ≡ want_struct None)) ⊎ ((count < ASKS) × EndsAsking c mid new)

-- ---- the turn

-- A turn is counted; the answer that waits goes out; the answers that have come are accepted, the requests are taken, and the node asks
-- for what its policy wants.
pub record IsTurn (came : List SciPacket) (c : SciWant) (old new : Stage) : Type 0 where
  pub replied : Stage
  pub accepted : Stage
  pub taken : Stage
  pub replies : Replies (record old { controller = record old.controller { policy = turned old.controller.policy } }) replied
  pub accepts : UpTo (AcceptsAt came) (length came) replied accepted
  pub takes : UpTo (TakesAt came) (length came) accepted taken
  pub asks : AsksSome c taken new
