-- What the calls of an end need and tell.
use Rattle.std.proofs.Common.{◌≡◌, ℕ, ◌/◌, ◌%◌, ◌<◌, List, [], ◌∷◌, length, get_or, Option, Some, None, refl, sym, ap, subst, ◌∙◌, true, arith}
use Rattle.std.proofs.lemmas.List.{get_or_read}
use Rattle.std.specs.Prelude.{is_some, slice_get, Result, Ok, Err}
use Rattle.sci_words.specs.declared.{event.Event.{Event}, operation.Op.{Op}}
use Rattle.sci_packets.specs.{declared.packet.Packet.{Packet}, Spelling.{SpellsInWords}}
use Rattle.sci_packets.proofs.Whole.{one_by_words}
use Rattle.sci_cache.specs.{Cache.{Letter, letter_of, line_of}, State.{waits}}
use Rattle.sci_core.specs.declared.lane.LaneKind.{LaneKind, TheVariants.{Requests, Answers}}
use Rattle.sci_core.specs.Node.{NodeOf, IsForNode, IsServable, lines_of, node_issuing}
use Rattle.sci_core.specs.Core.{Core, node_at, lane_at, lane_of, lane_place, Side, Takes, changes, side}
use Rattle.sci_core.specs.Reached.{IsReached}
use Rattle.sci_core.proofs.{Step.Applied.{servable, acceptable}, Tidy.Enabled.{request_enabled}}
use Rattle.sci_core.proofs.WellFormed.WellFormedSteps.{reached_well}
use Rattle.sci_lanes.specs.{declared.{cell.CellId.{CellId}, view.Part.{Part}}, Cells.{lane_count, receiver_of}}
use Rattle.sci_lanes.specs.Shown.{informed, me_of, outbound_at, inbound_at}
use Rattle.sci_lanes.specs.Telling.{IsFront, IsFull, IsShown, IsSending, IsTaking, SomeLineWaits}
use Rattle.sci_lanes.specs.Ends.{nodes_in, lane_at_cell, IsNextToSend, IsNextToTake, MayPublish, MayFree, MayBeat, node_after, taken_by, MayBeGiven}
use Rattle.sci_lanes.specs.Ends.{FitsInside}
use Rattle.sci_lanes.proofs.{Seats.{IsInLane, takes_in, shown_nodes}, Events.{sent_place, takes_what}}
use Rattle.sci_lanes.proofs.{LaneSteps.{words_some as words_some_of}, Inside.{inbox_within}}
use Rattle.sci_words.specs.declared.event.Event.TheVariants as event

-- ---- the next cells

pub next_send : (part : Part) (node : NodeOf) (me nodes : ℕ) (turns inbox_turns : List ℕ) → FitsInside part node me nodes turns inbox_turns
    → (kind : LaneKind) (to number : ℕ) → to < nodes_in part
    → number ≡ get_or turns (lane_place nodes kind me to) number → IsNextToSend part (record { kind = kind; sender = me; receiver = to; number = number })
next_send part node me nodes turns inbox_turns f kind to number lt read =
    let some_node = f.some_node in
    let nodes_are = f.nodes_is in
    let at = sent_place nodes kind me to some_node (omega arith) in
    let found : number ≡ get_or turns (lane_place nodes kind me to) 0 =
    get_or_read turns (lane_place nodes kind me to) number (subst (λ (n : ℕ). lane_place nodes kind me to < n) (sym f.turns_long) at.0) read 0 in
    record {
      mine = f.me_is;
      other = lt;
      next = found ∙ (f.turns_are (lane_place nodes kind me to) at.0 ∙ ap (λ (n : ℕ). (outbound_at part (lane_place n kind me to)).sent % 4) nodes_are);
    }

pub next_take : (part : Part) (node : NodeOf) (me nodes : ℕ) (turns inbox_turns : List ℕ) → FitsInside part node me nodes turns inbox_turns
    → (kind : LaneKind) (from number : ℕ) → from < nodes_in part
    → number ≡ get_or inbox_turns (lane_place nodes kind from me / nodes) number
    → IsNextToTake part (record { kind = kind; sender = from; receiver = me; number = number })
next_take part node me nodes turns inbox_turns f kind from number lt read =
    let some_node = f.some_node in
    let nodes_are = f.nodes_is in
    let at = sent_place nodes kind from me (omega arith) some_node in
    let place = lane_place nodes kind from me / nodes in
    let within : place < length inbox_turns =
    subst (λ (n : ℕ). place < n) (sym f.inbox_turns_long) (inbox_within nodes (lane_place nodes kind from me) (omega arith) at.0) in
    let found : number ≡ get_or inbox_turns place 0 = get_or_read inbox_turns place number within read 0 in
    record {
      mine = f.me_is;
      other = lt;
      next = found ∙ (f.taken_are (lane_place nodes kind from me) at.0 at.2
          ∙ ap (λ (n : ℕ). (inbound_at part (lane_place n kind from me)).taken % 4) nodes_are);
    }

-- ---- a full lane of requests

fronted : (core : Core) (from n : ℕ) (letters : List Letter) → IsReached core → from < core.size.nodes → n < core.size.nodes
    → lane_of core Requests from n ≡ letters → length letters ≡ 4
    → (letter : Letter) × (letter.line < core.size.lines) × (waits (line_of (node_at core from).cache letter.line).state ≡ true)
fronted core from n [] reached f t is four = absurd (omega arith)
fronted core from n (letter ∷ rest) reached f t is four = let w = (request_enabled core from n reached f t).waited letter rest is in (letter, w.0, w.1)

pub full_waits : (part : Part) (cell : CellId) (schedule : List Event) → IsShown part → IsNextToSend part cell → cell.kind ≡ Requests
    → IsFull (informed schedule part) (lane_at_cell part cell) → SomeLineWaits part.node
full_waits part cell schedule s next kind full =
    let core = full.core in
    let me = me_of part in
    let well = (reached_well core full.reached).each_part me full.some_node in
    let nodes_are : nodes_in part ≡ core.size.nodes = ap (λ node. node.cache.nodes) (sym full.here) ∙ well.all in
    let lane_is : lane_at_cell part cell ≡ lane_place core.size.nodes Requests me cell.receiver =
    (λ i. lane_place (nodes_are i) (kind i) (next.mine i) cell.receiver) in
    let four : length (lane_of core Requests me cell.receiver) ≡ 4 = ap (λ (l : ℕ). length (lane_at core l)) (sym lane_is) ∙ full.four in
    let w = fronted core me cell.receiver (lane_of core Requests me cell.receiver) full.reached full.some_node
    (subst (λ (n : ℕ). cell.receiver < n) nodes_are next.other) refl four in
    record {
      line = w.0.line;
      here = subst (λ (node : NodeOf). w.0.line < lines_of node) full.here (subst (λ (n : ℕ). w.0.line < n) (sym well.each) w.1);
      waiting = subst (λ (node : NodeOf). waits (line_of node.cache w.0.line).state ≡ true) full.here w.2;
    }

-- ---- events

pub publishing : (part : Part) (cell : CellId) (first : ℕ) (e : Event) → MayPublish part cell first e
    → IsSending part (lane_at_cell part cell) first e (node_after part.node (side part.node e))
publishing part cell first e may =
    let after_is : node_after part.node (side part.node e) ≡ may.after = ap (node_after part.node) may.side_is in
    subst (λ (node : NodeOf). IsSending part (lane_at_cell part cell) first e node) (sym after_is)
    (record {
      kind = cell.kind;
      packet = may.packet;
      own = may.own;
      side_is = may.side_is;
      target = subst (λ (t : ℕ). t < nodes_in part) (sym may.target) may.next.other;
      lane_is = (λ i. lane_place (nodes_in part) cell.kind (may.next.mine i) (sym may.target i));
      vacant = may.vacant;
      spelled = may.spelled;
    })

pub freeing : (part : Part) (cell : CellId) (e : Event) (packet : Packet) (next : NodeOf) → (may : MayFree part cell e) → packet ≡ may.packet
    → taken_by (side part.node e) (letter_of packet) ≡ Some next → IsTaking part (lane_at_cell part cell) e next
freeing part cell e packet next may is takes = record {
  kind = cell.kind;
  from = cell.sender;
  taking = may.taking;
  packet = packet;
  own = may.own;
  side_is = may.side_is;
  gives = ap (λ (s : Side). taken_by s (letter_of packet)) (sym may.side_is) ∙ takes;
  sender = may.next.other;
  lane_is = (λ i. lane_place (nodes_in part) cell.kind cell.sender (may.next.mine i));
  spelled = subst (λ (p : Packet). SpellsInWords p (inbound_at part (lane_at_cell part cell)).found) (sym is) may.spelled;
}

-- the packet that was found is the oldest of its lane, and may be given to the node
pub given : (part : Part) (cell : CellId) (e : Event) → IsShown part → (may : MayFree part cell e) → MayBeGiven e part.node (letter_of may.packet)
given part cell e s may = by_event e may.side_is
  where
    me : ℕ
    me = me_of part

    nodes : nodes_in part ≡ s.core.size.nodes
    nodes = shown_nodes part s

    at : IsInLane part cell
    at = takes_in part cell s may.next

    lane : ℕ
    lane = lane_at_cell part cell

    words_some : 0 < length (inbound_at part lane).found
    words_some = subst (λ (ws : List ℕ). 0 < length ws) (sym may.spelled.spelled_so) (words_some_of may.packet)

    front : IsFront (lane_at s.core lane) (inbound_at part lane).found
    front = s.found lane (subst (λ (n : ℕ). lane < lane_count n) nodes at.lane) (subst (λ (n : ℕ). receiver_of n lane ≡ me) nodes (at.receiver ∙ may.next.mine))
        words_some

    same : front.packet ≡ may.packet
    same = sym (one_by_words may.packet front.packet may.spelled.packet front.good (λ k a b.
        ap (λ (ws : List ℕ). get_or ws k 0) (sym may.spelled.spelled_so)
        ∙ front.agrees k (subst (λ (ws : List ℕ). k < length ws) (sym may.spelled.spelled_so) a) b))

    begins : (kind : LaneKind) (from : ℕ) → cell.kind ≡ kind → cell.sender ≡ from → slice_get (lane_of s.core kind from me) 0 ≡ Some (letter_of may.packet)
    begins kind from k f =
        let place : lane ≡ lane_place s.core.size.nodes kind from me = (λ i. lane_place (nodes i) (k i) (f i) (may.next.mine i)) in
        ap (λ (l : ℕ). slice_get (lane_at s.core l) 0) (sym place)
        ∙ (ap (λ (ls : List Letter). slice_get ls 0) front.front ∙ ap (λ (p : Packet). Some (letter_of p)) same)

    sender : cell.sender < s.core.size.nodes
    sender = subst (λ (n : ℕ). cell.sender < n) nodes may.next.other

    serves : (from : ℕ) → cell.kind ≡ Requests → cell.sender ≡ from → IsServable part.node (letter_of may.packet)
    serves from k f = subst (λ (node : NodeOf). IsServable node (letter_of may.packet)) s.here
        (servable s.core from me (letter_of may.packet) (reached_well s.core s.reached) (subst (λ (j : ℕ). j < s.core.size.nodes) f sender) s.some_node
        (begins Requests from k f))

    accepts : (from : ℕ) → cell.kind ≡ Answers → cell.sender ≡ from → IsForNode part.node (letter_of may.packet)
    accepts from k f = subst (λ (node : NodeOf). IsForNode node (letter_of may.packet)) s.here
        (acceptable s.core from me (letter_of may.packet) (reached_well s.core s.reached) (subst (λ (j : ℕ). j < s.core.size.nodes) f sender) s.some_node
        (begins Answers from k f))

    by_event : (v : Event) → side part.node v ≡ Takes cell.kind cell.sender may.taking → MayBeGiven v part.node (letter_of may.packet)
    by_event (event.Serve from n) is = let w = takes_what Requests cell.kind from cell.sender _ may.taking is in serves from (sym w.0) (sym w.1)
    by_event (event.Refuse from n) is = let w = takes_what Requests cell.kind from cell.sender _ may.taking is in serves from (sym w.0) (sym w.1)
    by_event (event.Accept from n) is = let w = takes_what Answers cell.kind from cell.sender _ may.taking is in accepts from (sym w.0) (sym w.1)
    by_event _ is = tt

-- two packets with the same words are one
pub one_spelled : (p q : Packet) (words : List ℕ) → SpellsInWords p words → SpellsInWords q words → p ≡ q
one_spelled p q words h k = one_by_words p q h.packet k.packet (λ i a b. ap (λ (ws : List ℕ). get_or ws i 0) (sym h.spelled_so ∙ k.spelled_so))

pub ok_first : {A B E : Type 0} (a c : A) (b d : B) (result : Result (A × B) E) → result ≡ Ok (a, b) → result ≡ Ok (c, d) → a ≡ c
ok_first {A = A} {B = B} {E = E} a c b d result h k = grind arith

pub ok_err : {A E : Type 0} (a : A) (e : E) (result : Result A E) → result ≡ Ok a → result ≡ Err e → ⊥
ok_err a e result h k = cc

pub takes_some : (part : Part) (cell : CellId) (e : Event) (may : MayFree part cell e) → taken_by (side part.node e) (letter_of may.packet) ≡ Some may.after
takes_some part cell e may = ap (λ (s : Side). taken_by s (letter_of may.packet)) may.side_is ∙ may.gives

-- an operation that may be issued is an Issue that the node may make
pub issue_beats : (part : Part) (n : ℕ) (op : Op) → n ≡ me_of part → is_some (node_issuing part.node op) ≡ true → MayBeat part (event.Issue n op)
issue_beats part n op own some_issue = by_issue (node_issuing part.node op) refl some_issue
  where
    by_issue : (o : Option NodeOf) → node_issuing part.node op ≡ o → is_some o ≡ true → MayBeat part (event.Issue n op)
    by_issue None e none_issue = cc
    by_issue (Some after) e some_ = record { own = own; after = after; side_is = ap changes e }
