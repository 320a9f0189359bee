-- A step on one lane keeps words and views showing a state.
use Rattle.std.proofs.Common.{◌≡◌, ◌≢◌, ℕ, ◌+◌, ◌<◌, inl, inr, List, length, get_or, set, refl, sym, ap, subst, ◌∙◌, arith}
use Rattle.std.proofs.lemmas.Bool.{cases_eq, Decides.{nat_tests}}
use Rattle.std.proofs.lemmas.List.{length-set, get_or-set_same, get_or-set_other}
use mathlib.Core.Option.{some}
use lib.ListN.{get_elem?}
use Rattle.sci_words.specs.declared.event.Event.{Event}
use Rattle.sci_core.specs.{Node.{NodeOf}, Core.{Core, node_at, lane_at}}
use Rattle.sci_lanes.specs.declared.view.{Outbound.{Outbound}, Inbound.{Inbound}, Part.{Part}, View.{View}}
use Rattle.sci_lanes.specs.Cells.{cell_place, lane_count, sender_of, receiver_of}
use Rattle.sci_lanes.specs.Shown.{Whole, nodes_of, me_of, single, informed, no_outbound, no_inbound, ShowsLane, IsKnown, Shows}
use Rattle.sci_lanes.specs.Knowing.{with_lane_known}
use Rattle.sci_lanes.proofs.LaneSteps.{stored_elsewhere}
use Rattle.sci_lanes.proofs.Keeping.{changed_at, changed_here, changed_else, step_shows, IsFurther, seen_all}

-- A change of a part's node and of what it knows of one lane: to o and i as the part says, to o' and i' as the whole does.
pub record IsTurn (x : Whole) (part : Part) (lane : ℕ) (core : Core) (schedule : List Event) (next : NodeOf) (o o' : Outbound) (i i' : Inbound) : Type 0 where
  pub lane_ok : lane < lane_count (nodes_of x)
  pub size : core.size ≡ x.core.size
  pub further : IsFurther (me_of part) x.schedule schedule
  pub others : (n : ℕ) → n ≢ me_of part → node_at core n ≡ node_at x.core n
  pub mine : node_at core (me_of part) ≡ next
  pub me : next.cache.me ≡ me_of part
  pub lanes : (k : ℕ) → k ≢ lane → lane_at core k ≡ lane_at x.core k
  pub sender : sender_of (nodes_of x) lane ≡ me_of part → o ≡ o'
  pub not_sender : sender_of (nodes_of x) lane ≢ me_of part → o' ≡ x.outbound lane
  pub receiver : receiver_of (nodes_of x) lane ≡ me_of part → i ≡ i'
  pub not_receiver : receiver_of (nodes_of x) lane ≢ me_of part → i' ≡ x.inbound lane

abbrev pub turned_whole : Whole → ℕ → Core → List Event → Outbound → Inbound → Whole
turned_whole x lane core schedule o i =
    record { core = core; schedule = schedule; outbound = changed_at x.outbound lane o; inbound = changed_at x.inbound lane i; owner = x.owner }

-- what a part knows of a lane when it and the whole change one, each to what it says
known_changed : {A : Type 0} (xs : List A) (f : ℕ → A) (lane other : ℕ) (new new' d : A) → lane < length xs → (other ≡ lane → new ≡ new')
    → get_or xs other d ≡ f other → get_or (set xs lane new) other d ≡ changed_at f lane new' other
known_changed xs f lane other new new' d lt here else = grind (arith, nat_tests, get_or-set_same, get_or-set_other, changed_here, changed_else)

known_turned : (x : Whole) (seat : ℕ) (part : Part) (lane : ℕ) (core : Core) (schedule : List Event) (next : NodeOf) (o o' : Outbound) (i i' : Inbound)
    → IsKnown x seat part → IsTurn x part lane core schedule next o o' i i'
    → IsKnown (turned_whole x lane core schedule o' i') seat (informed schedule (with_lane_known lane next o i part))
known_turned x seat part lane core schedule next o o' i i' k t =
    let n = nodes_of x in
    let size : core.size.nodes ≡ n = ap (λ s. s.nodes) t.size in
    let lane_in_out : lane < length part.outbound = subst (λ (m : ℕ). lane < m) (sym k.outbound_long) t.lane_ok in
    let lane_in_in : lane < length part.inbound = subst (λ (m : ℕ). lane < m) (sym k.inbound_long) t.lane_ok in
    record {
      some_node = subst (λ (m : ℕ). next.cache.me < m) (sym size) (subst (λ (m : ℕ). m < n) (sym t.me) k.some_node);
      mine = ap x.owner t.me ∙ k.mine;
      node = ap (λ (m : ℕ). node_at core m) t.me ∙ t.mine;
      seen = seen_all (informed schedule (with_lane_known lane next o i part));
      outbound_long = length-set part.outbound lane o ∙ (k.outbound_long ∙ ap lane_count (sym size));
      inbound_long = length-set part.inbound lane i ∙ (k.inbound_long ∙ ap lane_count (sym size));
      outbound = λ other lt is.
          let is' : sender_of n other ≡ me_of part = subst (λ (m : ℕ). sender_of m other ≡ me_of part) size (is ∙ t.me) in
          known_changed part.outbound x.outbound lane other o o' no_outbound lane_in_out
          (λ e. t.sender (subst (λ (l : ℕ). sender_of n l ≡ me_of part) e is')) (k.outbound other (subst (λ (m : ℕ). other < lane_count m) size lt) is');
      inbound = λ other lt is.
          let is' : receiver_of n other ≡ me_of part = subst (λ (m : ℕ). receiver_of m other ≡ me_of part) size (is ∙ t.me) in
          known_changed part.inbound x.inbound lane other i i' no_inbound lane_in_in
          (λ e. t.receiver (subst (λ (l : ℕ). receiver_of n l ≡ me_of part) e is')) (k.inbound other (subst (λ (m : ℕ). other < lane_count m) size lt) is');
    }

pub lane_step : (x : Whole) (words : List ℕ) (views : List View) (seat lane turn index value : ℕ) (part : Part) (core : Core) (schedule : List Event)
    (next : NodeOf) (o o' : Outbound) (i i' : Inbound)
    → Shows x words views → get_elem? views seat ≡ some (single part) → index < 11 → IsTurn x part lane core schedule next o o' i i'
    → ShowsLane (set words (cell_place lane turn + index) value) lane (lane_at core lane) o' i'
    → Shows (turned_whole x lane core schedule o' i') (set words (cell_place lane turn + index) value)
    (set views seat (single (informed schedule (with_lane_known lane next o i part))))
lane_step x words views seat lane turn index value part core schedule next o o' i i' s here few t shows =
    step_shows x y words views seat place value part (informed schedule (with_lane_known lane next o i part)) s here
    (record {
      size = ap (λ z. z.nodes) t.size;
      owner = λ n. refl;
      me = t.me;
      further = t.further;
      others = t.others;
      outbound = λ other apart. unchanged x.outbound o' other (λ e. t.not_sender (subst (λ (l : ℕ). sender_of (nodes_of x) l ≢ me_of part) e apart));
      inbound = λ other apart. unchanged x.inbound i' other (λ e. t.not_receiver (subst (λ (l : ℕ). receiver_of (nodes_of x) l ≢ me_of part) e apart));
      known = known_turned x seat part lane core schedule next o o' i i' (s.known seat (single part) here).0 t;
    })
    lanes
  where
    place : ℕ
    place = cell_place lane turn + index

    y : Whole
    y = turned_whole x lane core schedule o' i'

    unchanged : {A : Type 0} (f : ℕ → A) (a : A) (other : ℕ) → (other ≡ lane → a ≡ f lane) → changed_at f lane a other ≡ f other
    unchanged f a other same = elim (cases_eq other lane) [
      | inl e ↦ subst (λ (l : ℕ). changed_at f lane a l ≡ f l) (sym e) (changed_here f lane a ∙ same e)
      | inr apart ↦ changed_else f lane a other apart
    ]

    lanes : (other : ℕ) → other < lane_count (nodes_of x) → ShowsLane (set words place value) other (lane_at core other) (y.outbound other) (y.inbound other)
    lanes other lt = elim (cases_eq other lane) [
      | inl e ↦ subst (λ (l : ℕ). ShowsLane (set words place value) l (lane_at core l) (y.outbound l) (y.inbound l)) (sym e)
          (rw (changed_here x.outbound lane o', changed_here x.inbound lane i') shows)
      | inr apart ↦ rw (changed_else x.outbound lane o' other apart, changed_else x.inbound lane i' other apart)
          (let old = s.lanes other lt in
          record {
            packets = old.packets;
            letters = old.letters ∙ sym (t.lanes other apart);
            fits = stored_elsewhere words lane other turn index value old.packets (x.outbound other) (x.inbound other) apart few old.fits;
          })
    ]
