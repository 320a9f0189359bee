-- What a station remembers stays so.
use Rattle.std.proofs.Common.{◌≡◌, ◌≢◌, ◌<◌, ◌≤◌, ◌+◌, ◌/◌, ◌%◌, ◌⊎◌, ℕ, Bool, true, false, List, [], ◌∷◌, length, get_or, mul_assoc, set, Option, Some}
use Rattle.std.proofs.Common.{None, refl, sym, ap, subst, ◌∙◌, arith, inl, inr}
use Rattle.std.proofs.lemmas.Bool.{cases_eq, cases_lt, ne_eqb}
use Rattle.std.proofs.lemmas.List.{get_or-set_other, get_or-set_same, get_or_past, set_past}
use Rattle.std.specs.Prelude.{IfSome, slice_index}
use Rattle.sci_words.specs.declared.{event.Event.{Event}, operation.Op.{Op}}
use Rattle.sci_history.specs.declared.entry.Entry.{Entry}
use Rattle.sci_cache.specs.Cache.{Letter}
use Rattle.sci_packets.specs.{declared.packet.Packet.{Packet}, Spelling.{SpellsInWords}}
use Rattle.sci_core.specs.declared.lane.LaneKind.{LaneKind, TheVariants.{Answers, Requests}}
use Rattle.sci_core.specs.Core.{Changes, Core, Sends, Takes, changes, lane_at, lane_of, lane_place, node_at, node_of, performs, side, stepping}
use Rattle.sci_core.specs.{Draining.{one_if}, Node.{NodeOf}, Size.{Size}, Reached.{IsReached}}
use Rattle.sci_core.specs.WellFormed.{IsWellFormed}
use Rattle.sci_core.proofs.Step.Places.{place_answers, place_below, place_from, place_requests}
use Rattle.sci_core.proofs.WellFormed.WellFormedSteps.{reached_stepping, reached_well}
use Rattle.sci_lanes.specs.{declared.{cell.CellId.{CellId}, view.{Inbound.{Inbound}, Part.{Part}}}, Cells.{lane_count}}
use Rattle.sci_lanes.specs.{Ends.{EndOf, HasIssued, HasPerformed, lane_at_cell, nodes_in}, Shown.{inbound_at, me_of}}
use Rattle.sci_lanes.specs.Telling.{IsSameNode, IsShown, state_of}
use Rattle.sci_lanes.proofs.{Seats.{me_below, shown_nodes}, Opening.{lane_opened}}
use Rattle.sci_core.proofs.Schedules.{node_opened}
use Rattle.sci_turn.specs.Posts.{IsMade, IsPost, IsStill as IsStillPost, OthersLead, PostOf, nodes_in as nodes_at}
use Rattle.sci_station.specs.{declared.receiving.Seen.{Seen}, Ends.{HasRead, HasSeen, IsStill, LeavesOthers}}
use Rattle.sci_station.specs.Posts.{IsRead, KeptOf, Remembers, answers_to, is_kept, owed, packet_in, post_of}
use Rattle.sci_station.proofs.Owing.{adds_one, changed_owes, others_owe, sent_owes, taken_owes, takes_one}
use Rattle.sci_station.proofs.{Posts.{is_post, made_post, node_there, post_nodes, still_post}, StillEnds.{same_of_still}}
use Rattle.sci_words.specs.declared.event.Event.TheVariants as event

-- ---- sizes

-- there are at most sixteen nodes
pub few_nodes : (part : Part) → IsShown part → nodes_in part ≤ 16
few_nodes part s = let few = s.reached.size.extent.few_nodes in let same = shown_nodes part s in omega arith

nodes_same : (old new : Part) → IsSameNode old new → nodes_in new ≡ nodes_in old
nodes_same old new same = ap (λ (z : Size). z.nodes) same.sized

-- ---- lanes

-- lanes to one node are one only if they are of one kind and from one node
same_lane : (nodes : ℕ) (a b : LaneKind) (x y n : ℕ) → x < nodes → y < nodes → n < nodes → lane_place nodes a x n ≡ lane_place nodes b y n → (a ≡ b) × (x ≡ y)
same_lane nodes Requests Requests x y n lx ly ln e =
    (refl, sym (place_from nodes Requests x n lx ln) ∙ (ap (λ (p : ℕ). p / nodes % nodes) e ∙ place_from nodes Requests y n ly ln))
same_lane nodes Answers Answers x y n lx ly ln e =
    (refl, sym (place_from nodes Answers x n lx ln) ∙ (ap (λ (p : ℕ). p / nodes % nodes) e ∙ place_from nodes Answers y n ly ln))
same_lane nodes Requests Answers x y n lx ly ln e = absurd (let below = place_requests nodes x n lx ln in let above = place_answers nodes y n in omega arith)
same_lane nodes Answers Requests x y n lx ly ln e = absurd (let below = place_requests nodes y n ly ln in let above = place_answers nodes x n in omega arith)

-- ---- packets that were read

-- the sender of a packet that was read is there
pub sender_there : (end : EndOf) (kept : KeptOf) (kind : LaneKind) (from : ℕ) → IsRead end kept kind from → from < nodes_in end.part
sender_there end kept kind from read = subst (λ (j : ℕ). j < nodes_in end.part) read.sender_is read.read.next.other

-- a packet is still the oldest, if its lane is known as it was
pub read_on : (old new : EndOf) (kept after : KeptOf) (kind : LaneKind) (from : ℕ) → IsRead old kept kind from
    → packet_in after kind from ≡ packet_in kept kind from → IsShown new.part → IsSameNode old.part new.part
    → inbound_at new.part (lane_place (nodes_in old.part) kind from (me_of old.part)) ≡ inbound_at old.part
    (lane_place (nodes_in old.part) kind from (me_of old.part)) → IsRead new after kind from
read_on old new kept after kind from read there s same known =
    let cell = read.cell in
    let next = read.read.next in
    let lane : lane_at_cell old.part cell ≡ lane_place (nodes_in old.part) kind from (me_of old.part) =
    (λ i. lane_place (nodes_in old.part) (read.kind_is i) (read.sender_is i) (next.mine i)) in
    let lane_new : lane_at_cell new.part cell ≡ lane_at_cell old.part cell =
    (λ i. lane_place (nodes_same old.part new.part same i) cell.kind cell.sender cell.receiver) in
    let here : inbound_at new.part (lane_at_cell new.part cell) ≡ inbound_at old.part (lane_at_cell old.part cell) =
    ap (inbound_at new.part) lane_new ∙ subst (λ (l : ℕ). inbound_at new.part l ≡ inbound_at old.part l) (sym lane) known in
    record {
      packet = read.packet;
      there = there ∙ read.there;
      cell = cell;
      kind_is = read.kind_is;
      sender_is = read.sender_is;
      read = record {
        shown = s;
        next = record {
          mine = next.mine ∙ sym same.me;
          other = subst (λ (n : ℕ). cell.sender < n) (sym (nodes_same old.part new.part same)) next.other;
          next = next.next ∙ ap (λ (i : Inbound). i.taken % 4) (sym here);
        };
        spelled = subst (λ (i : Inbound). SpellsInWords read.packet i.found) (sym here) read.read.spelled;
      };
    }

-- what was read is kept elsewhere
read_as : (end : EndOf) (kept after : KeptOf) (kind : LaneKind) (from : ℕ) (read : IsRead end kept kind from)
    → packet_in after kind from ≡ packet_in kept kind from → IsRead end after kind from
read_as end kept after kind from read same = record {
  packet = read.packet;
  there = same ∙ read.there;
  cell = read.cell;
  kind_is = read.kind_is;
  sender_is = read.sender_is;
  read = read.read;
}

-- what is kept comes by other lanes than this one
abbrev pub AreApart : KeptOf → Part → ℕ → Type 0
AreApart kept part lane = (kind : LaneKind) (node : ℕ) → is_kept kept kind node ≡ true → node ≢ me_of part → node < nodes_in part
    → lane_place (nodes_in part) kind node (me_of part) ≢ lane

-- a lane to the node, whose packet isn't kept
pub apart_looked : (kept : KeptOf) (part : Part) (kind : LaneKind) (from : ℕ) → IsShown part → from < nodes_in part → is_kept kept kind from ≡ false
    → AreApart kept part (lane_place (nodes_in part) kind from (me_of part))
apart_looked kept part kind from s lt none k node is other below e = grind (arith, same_lane, me_below)

-- a lane from the node
pub apart_sent : (kept : KeptOf) (part : Part) (kind : LaneKind) (to : ℕ) → IsShown part → to < nodes_in part
    → AreApart kept part (lane_place (nodes_in part) kind (me_of part) to)
apart_sent kept part kind to s lt k node is other below e =
    other (sym (place_from (nodes_in part) k node (me_of part) below (me_below part s))
    ∙ (ap (λ (p : ℕ). p / nodes_in part % nodes_in part) e ∙ place_from (nodes_in part) kind (me_of part) to (me_below part s) lt))

-- what is kept is, where no other lane than this one is known otherwise
pub keeps_on : (old new : EndOf) (unanswered : List ℕ) (kept : KeptOf) (lane : ℕ) → Remembers old unanswered kept → IsShown new.part
    → IsSameNode old.part new.part → LeavesOthers lane old.part new.part → AreApart kept old.part lane
    → (kind : LaneKind) (node : ℕ) → is_kept kept kind node ≡ true → (node ≢ me_of new.part) × IsRead new kept kind node
keeps_on old new unanswered kept lane r t same others apart kind node is =
    let keeps = r.keeps kind node is in (
      (λ e. keeps.0 (e ∙ same.me)),
      read_on old new kept kept kind node keeps.1 refl t same (others _ (apart kind node is keeps.0 (sender_there old kept kind node keeps.1))),
    )

-- ---- what is owed

pub owed_still : (old new : PostOf) (node : ℕ) → IsPost old → IsStillPost old new → node < nodes_at old → owed new.core old.me node ≡ owed old.core old.me node
owed_still old new node here still lt = others_owe old.me node old.core still.others new.core (reached_well old.core here.reached) here.some lt still.lead

-- the counts are of another end of the same node
counts_on : (old new : EndOf) (counts : List ℕ) → IsSameNode old.part new.part
    → ((node : ℕ) → node < nodes_in old.part → slice_index counts node ≡ owed (state_of new.part) (me_of old.part) node)
    → (node : ℕ) → node < nodes_in new.part → slice_index counts node ≡ owed (state_of new.part) (me_of new.part) node
counts_on old new counts same are node lt =
    are node (subst (λ (n : ℕ). node < n) (nodes_same old.part new.part same) lt) ∙ ap (λ (m : ℕ). owed (state_of new.part) m node) (sym same.me)

none_on : (old new : Part) (counts : List ℕ) → IsSameNode old new → ((node : ℕ) → nodes_in old ≤ node → slice_index counts node ≡ 0) → (node : ℕ)
    → nodes_in new ≤ node → slice_index counts node ≡ 0
none_on old new counts same none node past = none node (subst (λ (n : ℕ). n ≤ node) (nodes_same old new same) past)

owing_still : (old new : EndOf) (unanswered : List ℕ) (kept : KeptOf) → Remembers old unanswered kept → IsShown new.part → IsStill old new
    → (node : ℕ) → node < nodes_in old.part → slice_index unanswered node ≡ owed (state_of new.part) (me_of old.part) node
owing_still old new unanswered kept r t still node lt =
    r.owing node lt ∙ sym (owed_still (post_of old) (post_of new) node (is_post old r.shown) (still_post old new r.shown t still.node still.seen)
    (subst (λ (n : ℕ). node < n) (post_nodes old r.shown) lt))

-- no event was made
pub remembers_still : (old new : EndOf) (unanswered : List ℕ) (kept : KeptOf) (lane : ℕ) → Remembers old unanswered kept → IsShown new.part → IsStill old new
    → LeavesOthers lane old.part new.part → AreApart kept old.part lane → Remembers new unanswered kept
remembers_still old new unanswered kept lane r t still others apart =
    let same = (same_of_still old new still).node in
    record {
      shown = t;
      owing = counts_on old new unanswered same (owing_still old new unanswered kept r t still);
      no_more = none_on old.part new.part unanswered same r.no_more;
      keeps = keeps_on old new unanswered kept lane r t same others apart;
    }

-- an answer was read
pub remembers_answer : (end : EndOf) (unanswered : List ℕ) (kept : KeptOf) (answer : Option Packet) → Remembers end unanswered kept
    → Remembers end unanswered (record kept { answer = answer })
remembers_answer end unanswered kept answer r = record { shown = r.shown; owing = r.owing; no_more = r.no_more; keeps = keeps }
  where
    keeps : (kind : LaneKind) (node : ℕ) → is_kept kept kind node ≡ true → (node ≢ me_of end.part) × IsRead end (record kept { answer = answer }) kind node
    keeps Answers node is = cc
    keeps Requests node is = let old = r.keeps Requests node is in (old.0, read_as end kept (record kept { answer = answer }) Requests node old.1 refl)

set_either : (marks : List Bool) (place : ℕ) (mark : Bool)
    → (get_or (set marks place mark) place false ≡ mark) ⊎ (get_or (set marks place mark) place false ≡ false)
set_either marks place mark = grind (arith, cases_lt, get_or-set_same, set_past, get_or_past)

either_is : (a b mark : Bool) → (a ≡ mark) ⊎ (a ≡ false) → a ≡ true → mark ≡ true
either_is a b mark (inl same) is = sym same ∙ is
either_is a b mark (inr none) is = cc

-- a request was read, and is kept or not
pub remembers_request : (end : EndOf) (unanswered : List ℕ) (kept : KeptOf) (from : ℕ) (packet : Packet) (cell : CellId) (keep : Bool)
    → Remembers end unanswered kept → HasRead end.part cell packet → cell.kind ≡ Requests → cell.sender ≡ from → (keep ≡ true → from ≢ me_of end.part)
    → get_or (set kept.requests from (Some packet)) from None ≡ Some packet
    → Remembers end unanswered (record kept { marks = set kept.marks from keep; requests = set kept.requests from (Some packet) })
remembers_request end unanswered kept from packet cell keep r read k f other there =
    record { shown = r.shown; owing = r.owing; no_more = r.no_more; keeps = keeps }
  where
    after : KeptOf
    after = record kept { marks = set kept.marks from keep; requests = set kept.requests from (Some packet) }

    keeps : (kind : LaneKind) (node : ℕ) → is_kept after kind node ≡ true → (node ≢ me_of end.part) × IsRead end after kind node
    keeps Answers node is = cc
    keeps Requests node is =
        elim (cases_eq node from) [
          | inl here ↦
              let kept_ : keep ≡ true = either_is (get_or (set kept.marks from keep) from false) true keep (set_either kept.marks from keep)
              (ap (λ (j : ℕ). get_or (set kept.marks from keep) j false) (sym here) ∙ is) in (
                (λ e. other kept_ (sym here ∙ e)),
                record {
                  packet = packet;
                  there = ap (λ (j : ℕ). get_or (set kept.requests from (Some packet)) j None) here ∙ there;
                  cell = cell;
                  kind_is = k;
                  sender_is = f ∙ sym here;
                  read = read;
                },
              )
          | inr apart ↦
              let old = r.keeps Requests node (sym (get_or-set_other kept.marks from node keep false apart) ∙ is) in
              (old.0, read_as end kept after Requests node old.1 (get_or-set_other kept.requests from node (Some packet) None apart))
        ]

-- ---- an event of the node

others_reach : (n : ℕ) (old : Core) (others : List Event) (new : Core) → IsReached old → OthersLead n old others new → IsReached new
others_reach n old [] new reached lead = subst IsReached lead reached
others_reach n old (e ∷ others) new reached lead = others_reach n lead.0 others new (reached_stepping old lead.0 e reached lead.1) lead.3

-- the state in which an event of the node was made, with what is owed there
pub record Middle (old : EndOf) (e : Event) (new : EndOf) : Type 0 where
  pub core : Core
  pub well : IsWellFormed core
  pub node : node_at core (node_of e) ≡ old.part.node
  pub steps : stepping core e ≡ Some (state_of new.part)
  pub below : (node : ℕ) → node < nodes_in old.part → node < core.size.nodes
  pub owes : (node : ℕ) → node < nodes_in old.part → owed core (node_of e) node ≡ owed (state_of old.part) (me_of old.part) node

pub middle : (old new : EndOf) (e : Event) → IsShown old.part → IsMade (post_of old) e (post_of new) → node_of e ≡ me_of old.part → Middle old e new
middle old new e s made own =
    let mid = made.mid in
    let still = made.still in
    let here = is_post old s in
    let size = still.same.size in
    let there : (node : ℕ) → node < nodes_in old.part → node < nodes_at (post_of old) = λ node lt. subst (λ (n : ℕ). node < n) (post_nodes old s) lt in
    record {
      core = mid.core;
      well = reached_well mid.core (others_reach (me_of old.part) (state_of old.part) still.others mid.core here.reached still.lead);
      node = ap (node_at mid.core) (own ∙ sym still.same.me) ∙ (still.node ∙ node_there old.part s);
      steps = made.made;
      below = λ node lt. subst (λ (z : Size). node < z.nodes) (sym size) (there node lt);
      owes = λ node lt. ap (λ (m : ℕ). owed mid.core m node) own ∙ owed_still (post_of old) mid node here still (there node lt);
    }

-- what is owed after an event that takes a packet, that sends one, and that changes the node alone
pub owing_taken : (old new : EndOf) (unanswered : List ℕ) (kept : KeptOf) (kind : LaneKind) (from : ℕ) (taking : Letter → Option NodeOf) (e : Event)
    → Remembers old unanswered kept → IsMade (post_of old) e (post_of new) → node_of e ≡ me_of old.part
    → side old.part.node e ≡ Takes kind from taking → (node : ℕ) → node < nodes_in old.part
    → owed (state_of new.part) (me_of old.part) node + takes_one kind from node ≡ slice_index unanswered node
owing_taken old new unanswered kept kind from taking e r made own is node lt =
    let m = middle old new e r.shown made own in
    let took = taken_owes m.core (state_of new.part) e from node kind taking m.well (m.below node lt) (ap (λ (v : NodeOf). side v e) m.node ∙ is) m.steps in
    ap (λ (n : ℕ). owed (state_of new.part) n node + takes_one kind from node) (sym own) ∙ (took ∙ (m.owes node lt ∙ sym (r.owing node lt)))

pub owing_sent : (old new : EndOf) (unanswered : List ℕ) (kept : KeptOf) (kind : LaneKind) (next : NodeOf) (letter : Letter) (e : Event)
    → Remembers old unanswered kept → IsMade (post_of old) e (post_of new) → node_of e ≡ me_of old.part
    → side old.part.node e ≡ Sends kind next letter → (node : ℕ) → node < nodes_in old.part
    → owed (state_of new.part) (me_of old.part) node ≡ slice_index unanswered node + adds_one kind letter.target node
owing_sent old new unanswered kept kind next letter e r made own is node lt =
    let m = middle old new e r.shown made own in
    let sent = sent_owes m.core (state_of new.part) e node kind next letter m.well (m.below node lt) (ap (λ (v : NodeOf). side v e) m.node ∙ is) m.steps in
    let before : owed m.core (node_of e) node ≡ slice_index unanswered node = m.owes node lt ∙ sym (r.owing node lt) in
    ap (λ (n : ℕ). owed (state_of new.part) n node) (sym own) ∙ (sent ∙ ap (λ (k : ℕ). k + adds_one kind letter.target node) before)

pub owing_changed : (old new : EndOf) (unanswered : List ℕ) (kept : KeptOf) (next : NodeOf) (e : Event) → Remembers old unanswered kept
    → IsMade (post_of old) e (post_of new) → node_of e ≡ me_of old.part → side old.part.node e ≡ Changes next
    → (node : ℕ) → node < nodes_in old.part → slice_index unanswered node ≡ owed (state_of new.part) (me_of old.part) node
owing_changed old new unanswered kept next e r made own is node lt =
    let m = middle old new e r.shown made own in
    let changed = changed_owes m.core (state_of new.part) e node next m.well (ap (λ (v : NodeOf). side v e) m.node ∙ is) m.steps in
    r.owing node lt ∙ (sym (m.owes node lt) ∙ (sym changed ∙ ap (λ (n : ℕ). owed (state_of new.part) n node) own))

-- the node has sent a packet
pub remembers_sent : (old new : EndOf) (unanswered counts : List ℕ) (kept : KeptOf) (kind : LaneKind) (next : NodeOf) (letter : Letter) (e : Event)
    → Remembers old unanswered kept → IsShown new.part → IsSameNode old.part new.part → IsMade (post_of old) e (post_of new)
    → node_of e ≡ me_of old.part → side old.part.node e ≡ Sends kind next letter → letter.target < nodes_in old.part
    → LeavesOthers (lane_place (nodes_in old.part) kind (me_of old.part) letter.target) old.part new.part
    → ((node : ℕ) → slice_index counts node ≡ slice_index unanswered node + adds_one kind letter.target node) → Remembers new counts kept
remembers_sent old new unanswered counts kept kind next letter e r t same made own is lt others counted = record {
  shown = t;
  owing = counts_on old new counts same (λ node below. counted node ∙ sym (owing_sent old new unanswered kept kind next letter e r made own is node below));
  no_more = none_on old.part new.part counts same
      (λ node past. (let none = r.no_more node past in let zero_ = adds_none kind letter.target node (λ e. (let at = lt in omega arith)) in
      let count = counted node in omega arith));
  keeps = keeps_on old new unanswered kept _ r t same others (apart_sent kept old.part kind letter.target r.shown lt);
}
  where
    adds_none : (kind : LaneKind) (to node : ℕ) → to ≢ node → adds_one kind to node ≡ 0
    adds_none Requests to node apart = ap one_if (ne_eqb to node apart)
    adds_none Answers to node apart = refl

-- it has taken one
pub remembers_taken : (old new : EndOf) (unanswered counts : List ℕ) (kept : KeptOf) (kind : LaneKind) (from : ℕ) (taking : Letter → Option NodeOf) (e : Event)
    → Remembers old unanswered kept → IsShown new.part → IsSameNode old.part new.part → IsMade (post_of old) e (post_of new)
    → node_of e ≡ me_of old.part → side old.part.node e ≡ Takes kind from taking → from < nodes_in old.part → is_kept kept kind from ≡ false
    → LeavesOthers (lane_place (nodes_in old.part) kind from (me_of old.part)) old.part new.part
    → ((node : ℕ) → slice_index counts node + takes_one kind from node ≡ slice_index unanswered node) → Remembers new counts kept
remembers_taken old new unanswered counts kept kind from taking e r t same made own is lt free others counted = record {
  shown = t;
  owing = counts_on old new counts same
      (λ node below. (let count = counted node in let owes = owing_taken old new unanswered kept kind from taking e r made own is node below in omega arith));
  no_more = none_on old.part new.part counts same (λ node past. (let none = r.no_more node past in let count = counted node in omega arith));
  keeps = keeps_on old new unanswered kept _ r t same others (apart_looked kept old.part kind from r.shown lt free);
}

-- it has changed alone
pub remembers_changed : (old new : EndOf) (unanswered : List ℕ) (kept : KeptOf) (next : NodeOf) (e : Event) → Remembers old unanswered kept → IsShown new.part
    → IsSameNode old.part new.part → IsMade (post_of old) e (post_of new)
    → node_of e ≡ me_of old.part → side old.part.node e ≡ Changes next → ((lane : ℕ) → inbound_at new.part lane ≡ inbound_at old.part lane)
    → Remembers new unanswered kept
remembers_changed old new unanswered kept next e r t same made own is known = record {
  shown = t;
  owing = counts_on old new unanswered same (owing_changed old new unanswered kept next e r made own is);
  no_more = none_on old.part new.part unanswered same r.no_more;
  keeps = keeps_on old new unanswered kept _ r t same (λ other apart. known other)
      (apart_sent kept old.part Requests (me_of old.part) r.shown (me_below old.part r.shown));
}

-- a node that has issued or performed something remembers as before
pub remembers_issued : (old new : EndOf) (unanswered : List ℕ) (kept : KeptOf) (op : Op) (result : Option ℕ) → Remembers old unanswered kept → IsShown new.part
    → IsSameNode old.part new.part
    → IfSome result (λ serial. HasIssued old op serial new) → (result ≡ None → new ≡ old) → Remembers new unanswered kept
remembers_issued old new unanswered kept op None r t same done unchanged = subst (λ (end : EndOf). Remembers end unanswered kept) (sym (unchanged refl)) r
remembers_issued old new unanswered kept op (Some serial) r t same done unchanged =
    remembers_changed old new unanswered kept new.part.node (event.Issue (me_of old.part) op) r t same (made_post old new _ r.shown t same done.made) refl
    (ap changes done.issued) (λ lane. ap (λ (e : EndOf). inbound_at e.part lane) done.rest)

pub remembers_performed : (old new : EndOf) (unanswered : List ℕ) (kept : KeptOf) (line : ℕ) (result : Option Entry) → Remembers old unanswered kept
    → IsShown new.part → IsSameNode old.part new.part
    → IfSome result (λ entry. HasPerformed old line entry new) → (result ≡ None → new ≡ old) → Remembers new unanswered kept
remembers_performed old new unanswered kept line None r t same done unchanged = subst (λ (end : EndOf). Remembers end unanswered kept) (sym (unchanged refl)) r
remembers_performed old new unanswered kept line (Some entry) r t same done unchanged =
    remembers_changed old new unanswered kept new.part.node (event.Perform (me_of old.part) line) r t same (made_post old new _ r.shown t same done.made) refl
    (ap performs done.performed) (λ lane. ap (λ (e : EndOf). inbound_at e.part lane) done.rest)

-- a request that was taken is kept no more
pub remembers_no_more : (end : EndOf) (unanswered : List ℕ) (kept : KeptOf) (from : ℕ) → Remembers end unanswered kept
    → Remembers end unanswered (record kept { marks = set kept.marks from false })
remembers_no_more end unanswered kept from r = record { shown = r.shown; owing = r.owing; no_more = r.no_more; keeps = keeps }
  where
    after : KeptOf
    after = record kept { marks = set kept.marks from false }

    keeps : (kind : LaneKind) (node : ℕ) → is_kept after kind node ≡ true → (node ≢ me_of end.part) × IsRead end after kind node
    keeps Answers node is = cc
    keeps Requests node is =
        elim (cases_eq node from) [
          | inl here ↦ (let clash = either_is (get_or (set kept.marks from false) from false) true false (set_either kept.marks from false)
              (ap (λ (j : ℕ). get_or (set kept.marks from false) j false) (sym here) ∙ is) in cc)
          | inr apart ↦
              let old = r.keeps Requests node (sym (get_or-set_other kept.marks from node false false apart) ∙ is) in
              (old.0, read_as end kept after Requests node old.1 refl)
        ]

-- fewer than 255 are owed
pub few_owed : (end : EndOf) (node : ℕ) → IsShown end.part → node < nodes_in end.part → owed (state_of end.part) (me_of end.part) node ≤ 9
few_owed end node s lt =
    let nodes = post_nodes end s in
    let core = state_of end.part in
    let here : node < core.size.nodes = subst (λ (n : ℕ). node < n) nodes lt in
    let mine : me_of end.part < core.size.nodes = subst (λ (c : Core). me_of end.part < c.size.nodes) (sym s.leads) s.some_node in
    let room : (l : ℕ) → l < lane_count core.size.nodes → length (lane_at core l) ≤ 4 =
    subst (λ (c : Core). (l : ℕ) → l < lane_count c.size.nodes → length (lane_at c l) ≤ 4) (sym s.leads) s.room in
    let requests = room _ (in_all core.size.nodes Requests (me_of end.part) node mine here) in
    let answers = room _ (in_all core.size.nodes Answers node (me_of end.part) here mine) in
    let one = at_most_one (answers_to (node_at core node).waiting (me_of end.part)) in
    omega arith
  where
    at_most_one : (b : Bool) → one_if b ≤ 1
    at_most_one true = omega arith
    at_most_one false = omega arith

    in_all : (nodes : ℕ) (kind : LaneKind) (a b : ℕ) → a < nodes → b < nodes → lane_place nodes kind a b < lane_count nodes
    in_all nodes kind a b la lb = subst (λ (n : ℕ). lane_place nodes kind a b < n) (mul_assoc 2 nodes nodes) (place_below nodes kind a b la lb)

-- ---- an end in whose machine nothing was done yet

pub nothing_owed : (end : EndOf) (node : ℕ) → IsShown end.part → end.part.schedule ≡ [] → node < nodes_in end.part
    → owed (state_of end.part) (me_of end.part) node ≡ 0
nothing_owed end node s none lt = grind (arith, lane_opened, node_opened)

-- ---- the calls of a post

-- a packet that was seen was read, or not to its end
pub remembers_read : (old new : EndOf) (unanswered : List ℕ) (kept : KeptOf) (seen : Seen) → Remembers old unanswered kept → HasSeen old.part seen
    → IsShown new.part → IsStill old new → LeavesOthers (lane_at_cell old.part seen.cell) old.part new.part
    → is_kept kept seen.cell.kind seen.cell.sender ≡ false → Remembers new unanswered kept
remembers_read old new unanswered kept seen r has t still others fresh =
    let next = has.next in
    remembers_still old new unanswered kept (lane_place (nodes_in old.part) seen.cell.kind seen.cell.sender (me_of old.part)) r t still
    (subst (λ (m : ℕ). LeavesOthers (lane_place (nodes_in old.part) seen.cell.kind seen.cell.sender m) old.part new.part) next.mine others)
    (apart_looked kept old.part seen.cell.kind seen.cell.sender r.shown next.other fresh)

-- a packet is kept no more once its mark is gone
pub none_kept : (kept : KeptOf) (from : ℕ) → is_kept (record kept { marks = set kept.marks from false }) Requests from ≡ false
none_kept kept from = elim (set_either kept.marks from false) [ inl e ↦ e | inr e ↦ e ]

no_packet : (lane : List Letter) → length lane ≡ 0 → lane ≡ []
no_packet [] e = refl
no_packet (letter ∷ rest) e = absurd (omega arith)

-- there is a packet only where a node owes one
pub owes_some : (core : Core) (n other : ℕ) → owed core n other ≡ 0 → lane_of core Answers other n ≡ []
owes_some core n other none = no_packet (lane_of core Answers other n) (omega arith)
