-- An end of the lanes as its node's post.
use Rattle.std.proofs.Common.{◌≡◌, ℕ, List, [], ◌∷◌, ◌++◌, Option, Some, None, refl, sym, ap, subst, ◌∙◌, arith}
use Rattle.std.proofs.lemmas.List.{append-nil, append_assoc}
use Rattle.std.specs.Prelude.{IsSome, unwrap_or}
use Rattle.sci_words.specs.declared.event.Event.{Event}
use Rattle.sci_cache.specs.Cache.{Letter, letter_of}
use Rattle.sci_core.specs.WellFormed.{IsWellFormed}
use Rattle.sci_core.specs.{Core.{AreEnabled, Core, Takes, lane_of, node_at, run, run_from, side, step, stepping}, Node.{NodeOf}}
use Rattle.sci_core.specs.{Size.{Size}, declared.lane.LaneKind.{LaneKind}}
use Rattle.sci_lanes.specs.declared.{view.Part.{Part}, cell.CellId.{CellId}}
use Rattle.sci_lanes.specs.Shown.{AreOfOthers, IsSeen, me_of}
use Rattle.sci_lanes.specs.Telling.{IsMade as WasMade, IsSameNode, IsShown, size_in, state_of, IsTaken as WasTaken, lane_taken}
use Rattle.sci_lanes.specs.Ends.{EndOf, MayFree, lane_at_cell, nodes_in}
use Rattle.sci_core.proofs.Schedules.{run_further}
use Rattle.sci_lanes.proofs.{Events.{taken_lane}, Calls.{one_spelled}, Seats.{shown_nodes}}
use Rattle.sci_core.proofs.WellFormed.WellFormedSteps.{reached_well, run_well}
use Rattle.sci_turn.specs.Posts.{IsMade, IsPost, IsStill, OthersLead, PostOf, node_in, IsFront, IsTaken, MayTakeFront}
use Rattle.sci_turn.proofs.Working.{other_stays}
use Rattle.sci_packets.specs.declared.packet.Packet.{Packet}
use Rattle.sci_station.specs.{Ends.{HasRead}, Posts.{StationPostOf, post_of}, Station.{StationOf}}
use Rattle.sci_station.proofs.StationEvents.{front_read}

some_step : (core : Core) (o : Option Core) → IsSome o → o ≡ Some (unwrap_or o core)
some_step core None some = cc
some_step core (Some next) some = refl

-- events that are enabled when they come lead on
others_lead : (size : Size) (n : ℕ) (known others : List Event) → AreEnabled size known others → AreOfOthers n others
    → OthersLead n (run size known) others (run size (known ++ others))
others_lead size n known [] enabled apart = ap (run size) (sym (append-nil known))
others_lead size n known (e ∷ others) enabled apart =
    let next = run size (known ++ e ∷ []) in
    let made : stepping (run size known) e ≡ Some (step (run size known) e) = some_step (run size known) (stepping (run size known) e) enabled.0 in
    let stepped : stepping (run size known) e ≡ Some next =
    made ∙ ap Some (sym (run_further size known (run size known) (step (run size known) e) e refl made)) in (
      next,
      stepped,
      apart.0,
      subst (λ (es : List Event). OthersLead n next others (run size es)) (append_assoc known (e ∷ []) others)
          (others_lead size n (known ++ e ∷ []) others enabled.1 apart.1),
    )

enabled_last : (size : Size) (known first others : List Event) → AreEnabled size known (first ++ others) → AreEnabled size (known ++ first) others
enabled_last size known [] others enabled = subst (λ (es : List Event). AreEnabled size es others) (sym (append-nil known)) enabled
enabled_last size known (e ∷ first) others enabled =
    subst (λ (es : List Event). AreEnabled size es others) (append_assoc known (e ∷ []) first) (enabled_last size (known ++ e ∷ []) first others enabled.1)

pub lead_runs : (n : ℕ) (old : Core) (others : List Event) (new : Core) → OthersLead n old others new → run_from old others ≡ new
lead_runs n old [] new lead = lead
lead_runs n old (e ∷ others) new lead = ap (λ (o : Option Core). run_from (unwrap_or o old) others) lead.1 ∙ lead_runs n lead.0 others new lead.3

pub node_there : (part : Part) (s : IsShown part) → node_at (state_of part) (me_of part) ≡ part.node
node_there part s = ap (λ (c : Core). node_at c (me_of part)) s.leads ∙ s.here

-- what holds of a post's node before and after holds of the end's
pub turned_so : (R : NodeOf → NodeOf → Type 0) (inside now : StationOf) (before : StationPostOf) (new : EndOf) → inside ≡ now → before.end ≡ inside.end
    → IsShown before.end.part → IsShown new.part → R (node_in (post_of before.end)) (node_in (post_of new)) → R now.end.part.node new.part.node
turned_so R inside now before new view same s t is = grind (arith, node_there)

pub is_post : (end : EndOf) → IsShown end.part → IsPost (post_of end)
is_post end s = grind arith

pub still_post : (old new : EndOf) → IsShown old.part → IsShown new.part → new.part.node ≡ old.part.node → IsSeen old.part new.part.schedule
    → IsStill (post_of old) (post_of new)
still_post old new s t node seen =
    let me : me_of new.part ≡ me_of old.part = ap (λ (n : NodeOf). n.cache.me) node in
    let size : size_in new.part ≡ size_in old.part = ap (λ (n : NodeOf). size_in (record new.part { node = n })) node in
    let enabled : AreEnabled (size_in old.part) old.part.schedule seen.others =
    enabled_last (size_in old.part) [] old.part.schedule seen.others
    (subst (λ (es : List Event). AreEnabled (size_in old.part) [] es) seen.further
    (subst (λ (z : Size). AreEnabled z [] new.part.schedule) size t.enabled)) in
    let state : run (size_in old.part) (old.part.schedule ++ seen.others) ≡ state_of new.part = (λ i. run (sym size i) (sym seen.further i)) in
    let lead : OthersLead (me_of old.part) (state_of old.part) seen.others (state_of new.part) =
    subst (OthersLead (me_of old.part) (state_of old.part) seen.others) state
    (others_lead (size_in old.part) (me_of old.part) old.part.schedule seen.others enabled seen.apart) in
    record {
      same = record {
        me = me;
        size = ap (λ (c : Core). c.size) (sym (lead_runs (me_of old.part) (state_of old.part) seen.others (state_of new.part) lead))
            ∙ (run_well (state_of old.part) seen.others (reached_well (state_of old.part) (is_post old s).reached)).same;
      };
      node = node_there new.part t ∙ (node ∙ sym (node_there old.part s));
      others = seen.others;
      lead = lead;
      further = seen.further;
    }

-- ---- events

-- others' events leave the node
others_stay : (n : ℕ) (old : Core) (others : List Event) (new : Core) → OthersLead n old others new → node_at new n ≡ node_at old n
others_stay n old [] new lead = ap (λ (c : Core). node_at c n) (sym lead)
others_stay n old (e ∷ others) new lead = others_stay n lead.0 others new lead.3 ∙ other_stays old lead.0 e n lead.2 lead.1

enabled_first : (size : Size) (known first others : List Event) → AreEnabled size known (first ++ others) → AreEnabled size known first
enabled_first size known [] others enabled = tt
enabled_first size known (e ∷ first) others enabled = (enabled.0, enabled_first size (known ++ e ∷ []) first others enabled.1)

-- an event of the end is one of the post
pub made_post : (old new : EndOf) (e : Event) → IsShown old.part → IsShown new.part → IsSameNode old.part new.part → WasMade old.part e new.part.schedule
    → IsMade (post_of old) e (post_of new)
made_post old new e s t same was =
    let n = me_of old.part in
    let size = size_in old.part in
    let known = old.part.schedule in
    let mid_core = run size (known ++ was.others) in
    let mid : PostOf = record { me = n; core = mid_core; schedule = Some (known ++ was.others) } in
    let all : AreEnabled size [] (known ++ was.others ++ e ∷ []) =
    subst (λ (es : List Event). AreEnabled size [] es) was.further (subst (λ (z : Size). AreEnabled z [] new.part.schedule) same.sized t.enabled) in
    let enabled : AreEnabled size known was.others = enabled_last size [] known was.others (enabled_first size [] (known ++ was.others) (e ∷ []) all) in
    let lead : OthersLead n (state_of old.part) was.others mid_core = others_lead size n known was.others enabled was.apart in
    let steps : stepping mid_core e ≡ Some (state_of new.part) = was.stepped ∙ ap (λ (z : Size). Some (run z new.part.schedule)) (sym same.sized) in
    let well = (run_well (state_of old.part) was.others (reached_well (state_of old.part) (is_post old s).reached)).same in
    let mid_size : mid_core.size ≡ (state_of old.part).size =
    ap (λ (c : Core). c.size) (sym (lead_runs n (state_of old.part) was.others mid_core lead)) ∙ well in
    let mid_well : IsWellFormed mid_core =
    subst IsWellFormed (lead_runs n (state_of old.part) was.others mid_core lead)
    (run_well (state_of old.part) was.others (reached_well (state_of old.part) (is_post old s).reached)).well in
    let new_size : (state_of new.part).size ≡ mid_core.size =
    ap (λ (o : Option Core). (unwrap_or o mid_core).size) (sym steps) ∙ (run_well mid_core (e ∷ []) mid_well).same in
    record {
      mid = mid;
      still = record {
        same = record { me = refl; size = mid_size };
        node = others_stay n (state_of old.part) was.others mid_core lead;
        others = was.others;
        lead = lead;
        further = refl;
      };
      made = steps;
      same = record { me = same.me; size = new_size };
      further = was.further;
    }

-- ---- packets that were read

pub post_nodes : (end : EndOf) → IsShown end.part → nodes_in end.part ≡ (state_of end.part).size.nodes
post_nodes end s = shown_nodes end.part s ∙ ap (λ (c : Core). c.size.nodes) (sym s.leads)

-- the packet is the oldest of its lane
pub front_post : (end : EndOf) (cell : CellId) (packet : Packet) (kind : LaneKind) (from : ℕ) → HasRead end.part cell packet → cell.kind ≡ kind
    → cell.sender ≡ from → IsFront (post_of end) kind from (letter_of packet)
front_post end cell packet kind from read k f =
    let front = front_read end.part cell packet read kind from k f in
    (front.0, ap (λ (c : Core). lane_of c kind from (me_of end.part)) read.shown.leads ∙ front.1)

one_front : (lane : List Letter) (a b : Letter) (xs ys : List Letter) → lane ≡ a ∷ xs → lane ≡ b ∷ ys → a ≡ b
one_front lane a b xs ys first second = let same : a ∷ xs ≡ b ∷ ys = sym first ∙ second in cc

-- an event that takes the oldest packet frees its cell
pub may_free : (end : EndOf) (cell : CellId) (packet : Packet) (kind : LaneKind) (from : ℕ) (e : Event) → HasRead end.part cell packet → cell.kind ≡ kind
    → cell.sender ≡ from → MayTakeFront (post_of end) kind from e → MayFree end.part cell e
may_free end cell packet kind from e read k f may =
    let take = may.1 in
    let front = front_post end cell packet kind from read k f in
    let same : may.0 ≡ letter_of packet = one_front _ may.0 (letter_of packet) take.front.0 front.0 take.front.1 front.1 in
    record {
      next = read.next;
      own = take.own;
      packet = packet;
      taking = take.taking;
      after = take.next;
      side_is = ap (λ (n : NodeOf). side n e) (sym (node_there end.part read.shown)) ∙ (take.side_is ∙ (λ i. Takes (sym k i) (sym f i) take.taking));
      gives = ap take.taking (sym same) ∙ take.gives;
      spelled = read.spelled;
    }

-- an event that frees a cell takes the packet that was the oldest before
pub taken_post : (old new : EndOf) (cell : CellId) (packet : Packet) (kind : LaneKind) (from : ℕ) (e : Event) (letter : Letter) → IsShown new.part
    → IsSameNode old.part new.part → HasRead old.part cell packet → cell.kind ≡ kind → cell.sender ≡ from
    → MayTakeFront (post_of old) kind from e → WasTaken old.part (lane_at_cell old.part cell) e new.part.schedule → IsFront (post_of old) kind from letter
    → IsTaken (post_of old) kind from letter e (post_of new)
unfolding made_post
taken_post old new cell packet kind from e letter t same read k f may was front =
    let take = may.1 in
    let here = front_post old cell packet kind from read k f in
    let letters : letter ≡ letter_of packet = one_front _ letter (letter_of packet) front.0 here.0 front.1 here.1 in
    let packets : was.packet ≡ packet = one_spelled was.packet packet _ was.spelled read.spelled in
    let core = run (size_in old.part) (old.part.schedule ++ was.made.others) in
    let lane : lane_of core kind from (me_of old.part) ≡ lane_taken core e =
    ap (lane_of core kind from) (sym take.own)
    ∙ sym (taken_lane core (node_at (state_of old.part) (me_of old.part)) e kind from take.taking take.side_is) in
    record {
      made = made_post old new e read.shown t same was.made;
      front = (was.rest, lane ∙ (was.front ∙ ap (λ (l : Letter). l ∷ was.rest) (ap letter_of packets ∙ sym letters)));
    }
