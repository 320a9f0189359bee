-- Publishing, freeing and beating are events of the machine, and keep the rule.
use Rattle.std.proofs.Common.{◌≡◌, ◌≢◌, ℕ, suc, ◌+◌, ◌*◌, ◌%◌, ◌<◌, List, [], ◌∷◌, ◌++◌, length, get_or, set, map, Option, None, Some, refl, sym, ap}
use Rattle.std.proofs.Common.{subst, ◌∙◌, arith, mul_assoc}
use Rattle.std.proofs.lemmas.List.{get_or-set_same, get_or-set_other, map_push}
use Rattle.std.specs.Prelude.{IsSome}
use mathlib.Core.Option.{none}
use Rattle.atomic_table.specs.Table.{step, Allows}
use Rattle.sci_words.specs.declared.event.Event.{Event}
use Rattle.sci_packets.specs.{declared.packet.Packet.{Packet}, Spelling.{IsPacket, words_of}}
use Rattle.sci_packets.proofs.Whole.{one_by_words}
use Rattle.sci_cache.specs.Cache.{Letter, letter_of}
use Rattle.sci_core.specs.{Size.{Size}, declared.lane.LaneKind.{LaneKind, TheVariants.{Requests, Answers}}}
use Rattle.sci_core.specs.Node.{NodeOf, no_node, node_accepting, node_refusing, node_serving}
use Rattle.sci_core.specs.Core.{AreEnabled, Core, node_at, with_node, with_lane, lane_at, lane_of, lane_place, side, node_of, sent_by, taken_from, IsEnabled}
use Rattle.sci_core.specs.Core.{stepping, run, Side, Takes, changes, performs, sends}
use Rattle.sci_core.specs.Reached.{IsReached}
use Rattle.sci_core.proofs.Step.Places.{place_below, place_from, place_to}
use Rattle.sci_core.proofs.Step.Stepping.{stepping_changed, stepping_sent, stepping_takes}
use Rattle.sci_core.proofs.WellFormed.WellFormedSteps.{reached_well, reached_stepping}
use Rattle.sci_core.proofs.Schedules.{enabled_more, run_further}
use Rattle.sci_lanes.specs.declared.view.{Outbound.{Outbound}, Inbound.{Inbound}, Part.{Part}}
use Rattle.sci_lanes.specs.Cells.{cell_place, own_place, lane_count, sender_of, receiver_of, word_at}
use Rattle.sci_lanes.specs.Shown.{Fits, ShowsLane, Whole, nodes_of, me_of, single, informed, outbound_at, inbound_at, IsKnown, IsKept}
use Rattle.sci_lanes.specs.Knowing.{published_out, published, freed_in, freed, with_node_known}
use Rattle.sci_lanes.specs.Telling.{IsMade, IsSending, IsTaken, IsTaking, IsBeating, lane_taken}
use Rattle.sci_lanes.specs.Plays.{Publishes, Frees, Beats}
use Rattle.sci_lanes.proofs.TableWords.{same_cell, place_within, own_apart, stored_else}
use Rattle.sci_lanes.proofs.LaneSteps.{agreeing, out_published, in_freed, words_some}
use Rattle.sci_lanes.proofs.{Keeping.{step_shows, one_further, seen_all}, Facts.{known_part}}
use Rattle.sci_lanes.proofs.Allowed.{lane_found, size_known, leads_here, goes, lane_goes, Goes, Owes, allows, tells}
use Rattle.sci_words.specs.declared.event.Event.TheVariants as event_is

-- ---- places of lanes

pub count_is : (nodes : ℕ) → 2 * nodes * nodes ≡ lane_count nodes
count_is nodes = mul_assoc 2 nodes nodes

-- a lane of this node, by its kind and its other end
pub sent_place : (nodes : ℕ) (kind : LaneKind) (from to : ℕ) → from < nodes → to < nodes
    → (lane_place nodes kind from to < lane_count nodes) × (sender_of nodes (lane_place nodes kind from to) ≡ from)
    × (receiver_of nodes (lane_place nodes kind from to) ≡ to)
sent_place nodes kind from to f t = grind (arith, count_is, place_below, place_from, place_to)

-- ---- states

-- the new node keeps its number
me_stays : (core : Core) (me : ℕ) (next : NodeOf) → IsReached core → me < core.size.nodes → node_at core me ≡ next → next.cache.me ≡ me
me_stays core me next reached some_node here = ap (λ (node : NodeOf). node.cache.me) (sym here) ∙ ((reached_well core reached).each_part me some_node).me

parts_within : (core : Core) (me : ℕ) → IsReached core → me < core.size.nodes → me < length core.parts
parts_within core me reached some_node = subst (λ (k : ℕ). me < k) (sym (reached_well core reached).sizes.parts_long) some_node

lanes_within : (core : Core) (lane : ℕ) → IsReached core → lane < lane_count core.size.nodes → lane < length core.lanes
lanes_within core lane reached lt = subst (λ (k : ℕ). lane < k) (sym ((reached_well core reached).sizes.lanes_long ∙ count_is core.size.nodes)) lt

-- the event's side at the part's node
side_here : (x : Whole) (seat : ℕ) (part : Part) (event : Event) → IsKnown x seat part → node_of event ≡ me_of part
    → side (node_at x.core (node_of event)) event ≡ side part.node event
side_here x seat part event k own = ap (λ (n : ℕ). side (node_at x.core n) event) own ∙ ap (λ (node : NodeOf). side node event) k.node

-- ---- schedules

-- a schedule goes on by an event that is enabled
one_enabled : (size : Size) (schedule : List Event) (old new : Core) (e : Event) → AreEnabled size [] schedule → run size schedule ≡ old
    → stepping old e ≡ Some new → AreEnabled size [] (schedule ++ e ∷ [])
one_enabled size schedule old new e all leads steps =
    enabled_more size [] schedule e all (subst (λ (o : Core). IsEnabled o e) (sym leads) (subst IsSome (sym steps) refl))

-- an event of the part's node that is enabled in the state of the whole is made
abbrev pub made : (x : Whole) (seat : ℕ) (part : Part) (size : Size) (core : Core) (e : Event) → IsReached x.core → x.core.size ≡ size
    → run size x.schedule ≡ x.core → IsKnown x seat part → stepping x.core e ≡ Some core → IsMade part e (x.schedule ++ e ∷ [])
made x seat part size core e reached sized leads k steps = record {
  others = k.seen.others;
  further = ap (λ (es : List Event). es ++ e ∷ []) k.seen.further;
  apart = k.seen.apart;
  stepped = ap (λ (o : Core). stepping o e) (leads_here x seat part size (part.schedule ++ k.seen.others) reached sized leads k (sym k.seen.further))
      ∙ (steps ∙ ap (λ (o : Core). Some o)
      (sym (ap (λ (z : Size). run z (x.schedule ++ e ∷ [])) (size_known x seat part size reached sized k)
      ∙ run_further size x.schedule x.core core e leads steps)));
}

-- ---- publish

pub publishes : (size : Size) (slots id lane number first : ℕ) (part : Part) (event : Event) (next : NodeOf) → number ≡ (outbound_at part lane).sent % 4
    → IsSending part lane first event next
    → Allows (IsKept size) slots id (single part, []) (cell_place lane number + 0) (λ n. first)
    (λ n. Publishes event next (step slots (cell_place lane number + 0) first 0 none) (single part, []) first)
publishes size slots id lane number first part event next number_is may =
    allows size slots id place part (λ n. first) (λ n. Publishes event next (step slots place first 0 none) (single part, []) first) owes
  where
    place : ℕ
    place = cell_place lane number + 0

    o : Outbound
    o = outbound_at part lane

    owes : Owes size id place part (λ n. first) (λ n. Publishes event next (step slots place first 0 none) (single part, []) first)
    owes s kept here k = (
      informed (x.schedule ++ event ∷ []) (published lane next part),
      went,
      rw (lane_found lane number 0 (omega arith)) (tells went (made x id part size core event kept.reached kept.sized kept.leads k stepped)),
    )
      where
        x : Whole
        x = kept.whole

        me : ℕ
        me = me_of part

        nodes : part.node.cache.nodes ≡ nodes_of x
        nodes = (known_part x id part kept.reached k).all

        target : may.packet.target < nodes_of x
        target = subst (λ (n : ℕ). may.packet.target < n) nodes may.target

        lane_is : lane ≡ lane_place (nodes_of x) may.kind me may.packet.target
        lane_is = may.lane_is ∙ ap (λ (n : ℕ). lane_place n may.kind me may.packet.target) nodes

        at : (lane < lane_count (nodes_of x)) × (sender_of (nodes_of x) lane ≡ me) × (receiver_of (nodes_of x) lane ≡ may.packet.target)
        at = subst (λ (l : ℕ). (l < lane_count (nodes_of x)) × (sender_of (nodes_of x) l ≡ me) × (receiver_of (nodes_of x) l ≡ may.packet.target)) (sym lane_is)
            (sent_place (nodes_of x) may.kind me may.packet.target k.some_node target)

        letter : Letter
        letter = letter_of may.packet

        core : Core
        core = sent_by x.core me may.kind next letter

        stepped : stepping x.core event ≡ Some core
        stepped = stepping_sent x.core core event may.kind next letter (subst (λ (n : ℕ). n < nodes_of x) (sym may.own) k.some_node)
            (side_here x id part event k may.own ∙ may.side_is) (ap (λ (n : ℕ). sent_by x.core n may.kind next letter) (sym may.own))

        reached : IsReached core
        reached = reached_stepping x.core core event kept.reached stepped

        mine : node_at core me ≡ next
        mine = get_or-set_same x.core.parts me next no_node (parts_within x.core me kept.reached k.some_node)

        lane_now : lane_at core lane ≡ lane_at x.core lane ++ letter ∷ []
        lane_now = subst (λ (l : ℕ). lane_at core l ≡ lane_at x.core l ++ letter ∷ []) (sym lane_is)
            (get_or-set_same x.core.lanes (lane_place (nodes_of x) may.kind me may.packet.target) (lane_of x.core may.kind me may.packet.target ++ letter ∷ [])
            [] (lanes_within x.core (lane_place (nodes_of x) may.kind me may.packet.target) kept.reached
            (subst (λ (l : ℕ). l < lane_count (nodes_of x)) lane_is at.0)))

        old : ShowsLane s.words lane (lane_at x.core lane) o (x.inbound lane)
        old = subst (λ (u : Outbound). ShowsLane s.words lane (lane_at x.core lane) u (x.inbound lane)) (sym (k.outbound lane at.0 at.1))
            (kept.shown.lanes lane at.0)

        turn : place ≡ cell_place lane o.sent + 0
        turn = ap (λ (c : ℕ). c + 0) (same_cell lane number o.sent (omega arith))

        fits : Fits (set s.words (cell_place lane o.sent + 0) first) lane (old.packets ++ may.packet ∷ []) (published_out o) (x.inbound lane)
        fits = out_published s.words lane first may.packet old.packets o (x.inbound lane) may.vacant may.spelled.packet
            (sym may.spelled.spelled_so)
            (subst (λ (n : ℕ). cell_place lane o.sent + 0 < n) (sym kept.shown.long) (place_within (nodes_of x) lane o.sent 0 at.0 (omega arith))) old.fits

        went : Goes size s id place first part (informed (x.schedule ++ event ∷ []) (published lane next part))
        went = lane_goes size s kept id lane o.sent 0 place first part {o = published_out o} {i = inbound_at part lane} here (omega arith)
            turn reached (run_further size x.schedule x.core core event kept.leads stepped)
            (one_enabled size x.schedule x.core core event kept.enabled kept.leads stepped)
            (record {
              lane_ok = at.0;
              size = refl;
              further = one_further me x.schedule event may.own;
              others = λ n apart. get_or-set_other x.core.parts me n next no_node apart;
              mine = mine;
              me = me_stays core me next reached k.some_node mine;
              lanes = λ other apart. get_or-set_other x.core.lanes (lane_place (nodes_of x) may.kind me may.packet.target) other
                  (lane_of x.core may.kind me may.packet.target ++ letter ∷ []) [] (λ e. apart (e ∙ sym lane_is));
              sender = λ is. refl;
              not_sender = λ apart. absurd (apart at.1);
              receiver = k.inbound lane at.0;
              not_receiver = λ apart. refl;
            })
            (record {
              packets = old.packets ++ may.packet ∷ [];
              letters = map_push letter_of old.packets may.packet ∙ (ap (λ (ls : List Letter). ls ++ letter ∷ []) old.letters ∙ sym lane_now);
              fits = fits;
            })

-- ---- free

-- a side that is made of an option, by the option's cases
pub by_option : {A T : Type 0} (f : Option A → Side) (s : Side) → (f None ≡ s → T) → ((x : A) → f (Some x) ≡ s → T) → (o : Option A) → f o ≡ s → T
by_option f s empty full None is = empty is
by_option f s empty full (Some x) is = full x is

pub takes_what : (k kind : LaneKind) (f from : ℕ) (t taking : Letter → Option NodeOf) → Takes k f t ≡ Takes kind from taking → (k ≡ kind) × (f ≡ from)
takes_what k kind f from t taking e = (cc, cc)

-- the lane from which an event takes, by its side at its node
pub taken_lane : (core : Core) (node : NodeOf) (e : Event) (kind : LaneKind) (from : ℕ) (taking : Letter → Option NodeOf)
    → side node e ≡ Takes kind from taking → lane_taken core e ≡ lane_of core kind from (node_of e)
taken_lane core node (event_is.Issue n op) kind from taking is = by_option changes _ (λ e. cc) (λ x e. cc) _ is
taken_lane core node (event_is.Perform n line) kind from taking is = by_option performs _ (λ e. cc) (λ x e. cc) _ is
taken_lane core node (event_is.Ask n line k) kind from taking is = by_option (sends Requests) _ (λ e. cc) (λ x e. cc) _ is
taken_lane core node (event_is.Reply n) kind from taking is = by_option (sends Answers) _ (λ e. cc) (λ x e. cc) _ is
taken_lane core node (event_is.Serve f n) kind from taking is =
    let e = takes_what Requests kind f from (node_serving node) taking is in (λ i. lane_of core (e.0 i) (e.1 i) n)
taken_lane core node (event_is.Refuse f n) kind from taking is =
    let e = takes_what Requests kind f from (node_refusing node) taking is in (λ i. lane_of core (e.0 i) (e.1 i) n)
taken_lane core node (event_is.Accept f n) kind from taking is =
    let e = takes_what Answers kind f from (node_accepting node) taking is in (λ i. lane_of core (e.0 i) (e.1 i) n)

-- the lane begins with a packet that the node takes
takes_front : (core : Core) (me place : ℕ) (taking : Letter → Option NodeOf) (lane : List Letter) (letter : Letter) (rest : List Letter) (next : NodeOf)
    → lane ≡ letter ∷ rest → taking letter ≡ Some next
    → taken_from core me place taking lane ≡ Some (with_lane (with_node core me next) place rest)
takes_front core me place taking lane letter rest next is gives = grind arith

-- the oldest packet of the lane is the one whose words were found
record IsOldest (words : List ℕ) (lane : ℕ) (letters : List Letter) (o : Outbound) (i : Inbound) (p : Packet) : Type 0 where
  packets : List Packet
  letters_are : letters ≡ letter_of p ∷ map letter_of packets
  fits : Fits words lane (p ∷ packets) o i

oldest : (words : List ℕ) (lane : ℕ) (letters : List Letter) (o : Outbound) (i : Inbound) (p : Packet) (packets : List Packet) → map letter_of packets ≡ letters
    → Fits words lane packets o i → IsPacket p → i.found ≡ words_of p
    → IsOldest words lane letters o i p
oldest words lane letters o i p [] is f good found =
    let there = f.there (subst (λ (ws : List ℕ). 0 < length ws) (sym found) (words_some p)) in absurd (omega arith)
oldest words lane letters o i p (q ∷ packets) is f good found =
    let turn : i.taken + 0 ≡ i.taken = omega arith in
    let same : q ≡ p = one_by_words q p (f.good 0 q refl) good (λ k a b.
    sym (f.full 0 k q refl a) ∙ (ap (λ (t : ℕ). word_at words lane t k) turn
    ∙ (f.found k (subst (λ (ws : List ℕ). k < length ws) (sym found) b) ∙ ap (λ (ws : List ℕ). get_or ws k 0) found))) in
    record {
      packets = packets;
      letters_are = sym is ∙ ap (λ (r : Packet). letter_of r ∷ map letter_of packets) same;
      fits = subst (λ (r : Packet). Fits words lane (r ∷ packets) o i) same f;
    }

pub frees : (size : Size) (slots id lane number : ℕ) (part : Part) (event : Event) (next : NodeOf) → number ≡ (inbound_at part lane).taken % 4
    → IsTaking part lane event next
    → Allows (IsKept size) slots id (single part, []) (cell_place lane number + 0) (λ n. 0)
    (λ n. Frees event next (step slots (cell_place lane number + 0) 0 0 none) (single part, []) 0)
frees size slots id lane number part event next number_is may =
    allows size slots id place part (λ n. 0) (λ n. Frees event next (step slots place 0 0 none) (single part, []) 0) owes
  where
    place : ℕ
    place = cell_place lane number + 0

    i : Inbound
    i = inbound_at part lane

    owes : Owes size id place part (λ n. 0) (λ n. Frees event next (step slots place 0 0 none) (single part, []) 0)
    owes s kept here k = (
      informed (x.schedule ++ event ∷ []) (freed lane next part),
      went,
      rw (lane_found lane number 0 (omega arith)) (tells went went_as),
    )
      where
        x : Whole
        x = kept.whole

        me : ℕ
        me = me_of part

        nodes : part.node.cache.nodes ≡ nodes_of x
        nodes = (known_part x id part kept.reached k).all

        from : may.from < nodes_of x
        from = subst (λ (n : ℕ). may.from < n) nodes may.sender

        lane_is : lane ≡ lane_place (nodes_of x) may.kind may.from me
        lane_is = may.lane_is ∙ ap (λ (n : ℕ). lane_place n may.kind may.from me) nodes

        at : (lane < lane_count (nodes_of x)) × (sender_of (nodes_of x) lane ≡ may.from) × (receiver_of (nodes_of x) lane ≡ me)
        at = subst (λ (l : ℕ). (l < lane_count (nodes_of x)) × (sender_of (nodes_of x) l ≡ may.from) × (receiver_of (nodes_of x) l ≡ me)) (sym lane_is)
            (sent_place (nodes_of x) may.kind may.from me from k.some_node)

        shown_lane : ShowsLane s.words lane (lane_at x.core lane) (x.outbound lane) i
        shown_lane = subst (λ (u : Inbound). ShowsLane s.words lane (lane_at x.core lane) (x.outbound lane) u) (sym (k.inbound lane at.0 at.2))
            (kept.shown.lanes lane at.0)

        old : IsOldest s.words lane (lane_at x.core lane) (x.outbound lane) i may.packet
        old = oldest s.words lane (lane_at x.core lane) (x.outbound lane) i may.packet shown_lane.packets shown_lane.letters shown_lane.fits may.spelled.packet
            may.spelled.spelled_so

        rest : List Letter
        rest = map letter_of old.packets

        core : Core
        core = with_lane (with_node x.core me next) lane rest

        front : lane_of x.core may.kind may.from me ≡ letter_of may.packet ∷ rest
        front = subst (λ (l : ℕ). lane_at x.core l ≡ letter_of may.packet ∷ rest) lane_is old.letters_are

        stepped : stepping x.core event ≡ Some core
        stepped =
            stepping_takes x.core event may.kind may.from may.taking (subst (λ (n : ℕ). n < nodes_of x) (sym may.own) k.some_node) from
            (side_here x id part event k may.own ∙ may.side_is)
            ∙ (ap (λ (n : ℕ). taken_from x.core n (lane_place (nodes_of x) may.kind may.from n) may.taking (lane_of x.core may.kind may.from n)) may.own
            ∙ (takes_front x.core me (lane_place (nodes_of x) may.kind may.from me) may.taking (lane_of x.core may.kind may.from me) (letter_of may.packet) rest
            next front may.gives
            ∙ ap (λ (l : ℕ). Some (with_lane (with_node x.core me next) l rest)) (sym lane_is)))

        reached : IsReached core
        reached = reached_stepping x.core core event kept.reached stepped

        event_made : IsMade part event (x.schedule ++ event ∷ [])
        event_made = made x id part size core event kept.reached kept.sized kept.leads k stepped

        taken_from_lane : lane_taken x.core event ≡ letter_of may.packet ∷ rest
        taken_from_lane = taken_lane x.core part.node event may.kind may.from may.taking may.side_is
            ∙ (ap (λ (n : ℕ). lane_of x.core may.kind may.from n) may.own ∙ front)

        went_as : IsTaken part lane event (x.schedule ++ event ∷ [])
        went_as = record {
          made = event_made;
          packet = may.packet;
          spelled = may.spelled;
          rest = rest;
          front = ap (λ (o : Core). lane_taken o event)
              (leads_here x id part size (part.schedule ++ k.seen.others) kept.reached kept.sized kept.leads k (sym k.seen.further)) ∙ taken_from_lane;
        }

        mine : node_at core me ≡ next
        mine = get_or-set_same x.core.parts me next no_node (parts_within x.core me kept.reached k.some_node)

        lane_now : lane_at core lane ≡ rest
        lane_now = get_or-set_same x.core.lanes lane rest [] (lanes_within x.core lane kept.reached at.0)

        turn : place ≡ cell_place lane i.taken + 0
        turn = ap (λ (c : ℕ). c + 0) (same_cell lane number i.taken (omega arith))

        went : Goes size s id place 0 part (informed (x.schedule ++ event ∷ []) (freed lane next part))
        went = lane_goes size s kept id lane i.taken 0 place 0 part {o = outbound_at part lane} {i = freed_in i} here (omega arith) turn
            reached (run_further size x.schedule x.core core event kept.leads stepped)
            (one_enabled size x.schedule x.core core event kept.enabled kept.leads stepped)
            (record {
              lane_ok = at.0;
              size = refl;
              further = one_further me x.schedule event may.own;
              others = λ n apart. get_or-set_other x.core.parts me n next no_node apart;
              mine = mine;
              me = me_stays core me next reached k.some_node mine;
              lanes = λ other apart. get_or-set_other x.core.lanes lane other rest [] apart;
              sender = k.outbound lane at.0;
              not_sender = λ apart. refl;
              receiver = λ is. refl;
              not_receiver = λ apart. absurd (apart at.2);
            })
            (record {
              packets = old.packets;
              letters = sym lane_now;
              fits = in_freed s.words lane may.packet old.packets (x.outbound lane) i
                  (subst (λ (n : ℕ). cell_place lane i.taken + 0 < n) (sym kept.shown.long) (place_within (nodes_of x) lane i.taken 0 at.0 (omega arith)))
                  old.fits;
            })

-- ---- beat

pub beats : (size : Size) (slots id : ℕ) (part : Part) (event : Event) (next : NodeOf) → IsBeating part event next
    → Allows (IsKept size) slots id (single part, []) (own_place size.nodes (me_of part)) (λ n. n)
    (Beats event next (step slots (own_place size.nodes (me_of part)) 0 0 none) (single part, []))
beats size slots id part event next may =
    allows size slots id place part (λ n. n) (Beats event next (step slots place 0 0 none) (single part, [])) owes
  where
    me : ℕ
    me = me_of part

    place : ℕ
    place = own_place size.nodes me

    owes : Owes size id place part (λ n. n) (Beats event next (step slots place 0 0 none) (single part, []))
    owes s kept here k = (
      informed (x.schedule ++ event ∷ []) (with_node_known next part),
      went,
      tells went (made x id part size core event kept.reached kept.sized kept.leads k stepped),
    )
      where
        x : Whole
        x = kept.whole

        value : ℕ
        value = get_or s.words place 0

        core : Core
        core = with_node x.core me next

        stepped : stepping x.core event ≡ Some core
        stepped = stepping_changed x.core core event next (subst (λ (n : ℕ). n < nodes_of x) (sym may.own) k.some_node)
            (side_here x id part event k may.own ∙ may.side_is) (ap (λ (n : ℕ). with_node x.core n next) (sym may.own))

        reached : IsReached core
        reached = reached_stepping x.core core event kept.reached stepped

        mine : node_at core me ≡ next
        mine = get_or-set_same x.core.parts me next no_node (parts_within x.core me kept.reached k.some_node)

        same_me : next.cache.me ≡ me
        same_me = me_stays core me next reached k.some_node mine

        y : Whole
        y = record { core = core; schedule = x.schedule ++ event ∷ []; outbound = x.outbound; inbound = x.inbound; owner = x.owner }

        apart : (lane turn j : ℕ) → lane < lane_count (nodes_of x) → j < 11 → cell_place lane turn + j ≢ place
        apart lane turn j lt few = own_apart size.nodes me lane turn j (subst (λ (z : Size). lane < lane_count z.nodes) kept.sized lt) few

        lanes : (lane : ℕ) → lane < lane_count (nodes_of x) → ShowsLane (set s.words place value) lane (lane_at core lane) (x.outbound lane) (x.inbound lane)
        lanes lane lt =
            let old = kept.shown.lanes lane lt in
            let o = x.outbound lane in
            let i = x.inbound lane in
            record {
              packets = old.packets;
              letters = old.letters;
              fits = agreeing s.words (set s.words place value) lane old.packets o i
                  (record {
                    full = λ j n a b. stored_else s.words place (cell_place lane (i.taken + j) + n) value (apart lane (i.taken + j) n lt b);
                    empty = λ j a b. stored_else s.words place (cell_place lane (i.taken + j) + 0) value (apart lane (i.taken + j) 0 lt (omega arith));
                    filled = λ j a. let most = old.fits.few_filled in
                        stored_else s.words place (cell_place lane o.sent + suc j) value (apart lane o.sent (suc j) lt (omega arith));
                    found = λ j a. let most = old.fits.few_found in
                        stored_else s.words place (cell_place lane i.taken + j) value (apart lane i.taken j lt (omega arith));
                  })
                  old.fits;
            }

        went : Goes size s id place value part (informed (x.schedule ++ event ∷ []) (with_node_known next part))
        went = goes size s kept id place value part (informed (x.schedule ++ event ∷ []) (with_node_known next part)) y reached kept.sized
            (run_further size x.schedule x.core core event kept.leads stepped) (one_enabled size x.schedule x.core core event kept.enabled kept.leads stepped)
            refl here same_me
            (step_shows x y s.words s.views id place value part (informed (x.schedule ++ event ∷ []) (with_node_known next part)) kept.shown here
            (record {
              size = refl;
              owner = λ n. refl;
              me = same_me;
              further = one_further me x.schedule event may.own;
              others = λ n not. get_or-set_other x.core.parts me n next no_node not;
              outbound = λ lane not. refl;
              inbound = λ lane not. refl;
              known = record {
                some_node = subst (λ (m : ℕ). m < nodes_of x) (sym same_me) k.some_node;
                mine = ap x.owner same_me ∙ k.mine;
                node = ap (λ (m : ℕ). node_at core m) same_me ∙ mine;
                seen = seen_all (informed (x.schedule ++ event ∷ []) (with_node_known next part));
                outbound_long = k.outbound_long;
                inbound_long = k.inbound_long;
                outbound = λ lane lt is. k.outbound lane lt (is ∙ same_me);
                inbound = λ lane lt is. k.inbound lane lt (is ∙ same_me);
              };
            })
            lanes)
