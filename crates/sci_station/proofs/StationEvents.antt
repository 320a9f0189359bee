-- What a station may do with what it has received, and what it has to send.
use Rattle.std.proofs.Common.{◌≡◌, ◌<◌, ℕ, false, List, ◌∷◌, get_or, length, Option, Some, None, refl, sym, ap, subst, ◌∙◌, arith}
use Rattle.std.proofs.lemmas.List.{append_assoc}
use Rattle.std.specs.Prelude.{IsSome}
use Rattle.sci_words.specs.declared.event.{AskKind.{AskKind}, Event.{Event}}
use Rattle.sci_packets.specs.declared.packet.Packet.{Packet}
use Rattle.sci_packets.proofs.Whole.{one_by_words}
use Rattle.sci_cache.specs.Cache.{Letter, letter_of}
use Rattle.sci_core.specs.declared.lane.LaneKind.{LaneKind, TheVariants.{Answers, Requests}}
use Rattle.sci_core.specs.Core.{Takes, side, lane_at, lane_of, lane_place, node_at, node_of}
use Rattle.sci_core.specs.Node.{NodeOf, is_setback, node_accepting, node_asking, node_refusing, node_serving}
use Rattle.sci_core.proofs.{Tidy.Enabled.{accept_enabled, request_enabled}, Basics.Options.{found}}
use Rattle.sci_policy.proofs.Targets.{asked_target, waiting_target}
use Rattle.sci_lanes.specs.{declared.{cell.CellId.{CellId}, view.Part.{Part}}, Shown.{inbound_at, me_of}}
use Rattle.sci_lanes.specs.{Telling.{IsShown, IsMade}, Ends.{EndOf, MayFree, lane_at_cell, nodes_in}}
use Rattle.sci_station.proofs.{StillEnds.{same_of_still}, Cells.{front_found}}
use Rattle.sci_lanes.proofs.{Seats.{shown_nodes}, LaneSteps.{words_some}}
use Rattle.sci_station.specs.Ends.{HasRead, IsStill}
use Rattle.sci_history.proofs.Order.{all-append}
use Rattle.sci_words.specs.declared.event.Event.TheVariants as event

-- ---- sending

-- the answer that waits goes to a node of the machine
pub reply_target : (part : Part) (answer : Letter) → IsShown part → part.node.waiting ≡ Some answer → answer.target < nodes_in part
reply_target part answer s waits =
    subst (λ (n : ℕ). answer.target < n) (sym (shown_nodes part s))
    (waiting_target s.core (me_of part) answer s.reached s.some_node (ap (λ (m : NodeOf). m.waiting) s.here ∙ waits))

pub ask_target : (part : Part) (line : ℕ) (kind : AskKind) (sent : NodeOf × Letter) → IsShown part → node_asking part.node line kind ≡ Some sent
    → sent.1.target < nodes_in part
ask_target part line kind sent s asks =
    subst (λ (n : ℕ). sent.1.target < n) (sym (shown_nodes part s))
    (asked_target s.core (me_of part) line kind sent s.reached s.some_node (ap (λ (m : NodeOf). node_asking m line kind) s.here ∙ asks))

-- ---- receiving

-- the packet that was read is the oldest of its lane
pub front_read : (part : Part) (cell : CellId) (packet : Packet) (read : HasRead part cell packet) (kind : LaneKind) (from : ℕ) → cell.kind ≡ kind
    → cell.sender ≡ from
    → (rest : List Letter) × (lane_of read.shown.core kind from (me_of part) ≡ letter_of packet ∷ rest)
front_read part cell packet read kind from k f =
    let s = read.shown in
    let lane = lane_at_cell part cell in
    let found = (inbound_at part lane).found in
    let some : 0 < length found = subst (λ (ws : List ℕ). 0 < length ws) (sym read.spelled.spelled_so) (words_some packet) in
    let front = front_found part cell s read.next some in
    let same : front.packet ≡ packet = sym (one_by_words packet front.packet read.spelled.packet front.good (λ i a b.
    ap (λ (ws : List ℕ). get_or ws i 0) (sym read.spelled.spelled_so)
    ∙ front.agrees i (subst (λ (ws : List ℕ). i < length ws) (sym read.spelled.spelled_so) a) b)) in
    let place : lane ≡ lane_place s.core.size.nodes kind from (me_of part) = (λ i. lane_place (shown_nodes part s i) (k i) (f i) (read.next.mine i)) in
    (front.rest, ap (lane_at s.core) (sym place) ∙ (front.front ∙ ap (λ (p : Packet). letter_of p ∷ front.rest) same))

sender_below : (part : Part) (cell : CellId) (packet : Packet) (read : HasRead part cell packet) (from : ℕ) → cell.sender ≡ from
    → from < read.shown.core.size.nodes
sender_below part cell packet read from f = subst (λ (n : ℕ). from < n) (shown_nodes part read.shown) (subst (λ (j : ℕ). j < nodes_in part) f read.next.other)

-- an event that takes the packet that was read frees its cell
frees_read : (part : Part) (cell : CellId) (packet : Packet) (from : ℕ) (kind : LaneKind) (e : Event) (taking : NodeOf → Letter → Option NodeOf)
    → (read : HasRead part cell packet) → cell.kind ≡ kind → cell.sender ≡ from → node_of e ≡ me_of part → side part.node e ≡ Takes kind from (taking part.node)
    → IsSome (taking (node_at read.shown.core (me_of part)) (letter_of packet)) → MayFree part cell e
frees_read part cell packet from kind e taking read k f own side_is some =
    let next = found (taking part.node (letter_of packet)) (subst (λ (m : NodeOf). IsSome (taking m (letter_of packet))) read.shown.here some) in
    record {
      next = read.next;
      own = own;
      packet = packet;
      taking = taking part.node;
      after = next.0;
      side_is = side_is ∙ sym (λ i. Takes (k i) (f i) (taking part.node));
      gives = next.1;
      spelled = read.spelled;
    }

-- an answer that was read is accepted
pub may_accept : (part : Part) (cell : CellId) (packet : Packet) (from n : ℕ) → HasRead part cell packet → cell.kind ≡ Answers → cell.sender ≡ from
    → n ≡ me_of part → MayFree part cell (event.Accept from n)
may_accept part cell packet from n read k f is =
    let s = read.shown in
    let front = front_read part cell packet read Answers from k f in
    frees_read part cell packet from Answers (event.Accept from n) node_accepting read k f is refl
    (accept_enabled s.core from (me_of part) s.reached (sender_below part cell packet read from f) s.some_node (letter_of packet) front.0 front.1)

-- a request that was read is served, if no answer waits
pub may_serve : (part : Part) (cell : CellId) (packet : Packet) (from n : ℕ) → HasRead part cell packet → cell.kind ≡ Requests → cell.sender ≡ from
    → n ≡ me_of part → part.node.waiting ≡ None → MayFree part cell (event.Serve from n)
may_serve part cell packet from n read k f is free =
    let s = read.shown in
    let front = front_read part cell packet read Requests from k f in
    frees_read part cell packet from Requests (event.Serve from n) node_serving read k f is refl
    ((request_enabled s.core from (me_of part) s.reached (sender_below part cell packet read from f) s.some_node).served (letter_of packet) front.0 front.1
    (ap (λ (m : NodeOf). m.waiting) s.here ∙ free))

-- a request that was read is refused, unless it is a Setback
pub may_refuse : (part : Part) (cell : CellId) (packet : Packet) (from n : ℕ) → HasRead part cell packet → cell.kind ≡ Requests → cell.sender ≡ from
    → n ≡ me_of part → part.node.waiting ≡ None → is_setback (letter_of packet).body ≡ false
    → MayFree part cell (event.Refuse from n)
may_refuse part cell packet from n read k f is free no_setback =
    let s = read.shown in
    let front = front_read part cell packet read Requests from k f in
    frees_read part cell packet from Requests (event.Refuse from n) node_refusing read k f is refl
    ((request_enabled s.core from (me_of part) s.reached (sender_below part cell packet read from f) s.some_node).refused (letter_of packet) front.0 front.1
    (ap (λ (m : NodeOf). m.waiting) s.here ∙ free) no_setback)

-- an event that was made after steps that are none
pub made_later : (old mid : EndOf) (e : Event) (schedule : List Event) → IsStill old mid → IsMade mid.part e schedule → IsMade old.part e schedule
made_later old mid e schedule still m = grind (arith, same_of_still, append_assoc, all-append)
