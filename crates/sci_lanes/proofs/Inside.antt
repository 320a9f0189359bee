-- How the fields of an end fit together after each call.
use Rattle.std.proofs.Common.{◌≡◌, ◌≢◌, ℕ, ◌+◌, ◌*◌, ◌/◌, ◌%◌, ◌<◌, inl, inr, Bool, true, false, if◌then◌else◌, List, length, get_or, set, refl, sym, ap}
use Rattle.std.proofs.{Common.{subst, ◌∙◌, arith, mul_assoc}, lemmas.Bool.{cases_eq}}
use Rattle.std.proofs.lemmas.List.{length-set, get_or-set_same, get_or-set_other}
use Rattle.std.proofs.Math.Nat.{div-lt_iff_lt-mul, div-add-mod}
use Rattle.sci_core.specs.Node.{NodeOf}
use Rattle.sci_lanes.specs.declared.{cell.CellId.{CellId}, view.{Outbound.{Outbound}, Inbound.{Inbound}, Part.{Part}}}
use Rattle.sci_lanes.specs.Cells.{lane_count, receiver_of, lane_number}
use Rattle.sci_lanes.specs.Shown.{me_of, informed, no_outbound, no_inbound, outbound_at, inbound_at}
use Rattle.sci_lanes.specs.Knowing.{has_sent_more, with_lane_known, looked_in, looked_out, looked, is_sending, is_receiving, filled, filled_out, read}
use Rattle.sci_lanes.specs.{Knowing.{read_in, published, published_out, freed, freed_in}, Telling.{IsShown, IsSameNode}}
use Rattle.sci_lanes.specs.Ends.{nodes_in, lane_at_cell, FitsInside}
use Rattle.sci_words.specs.declared.event.Event.{Event}
use Rattle.sci_lanes.proofs.Seats.{IsInLane}

-- ---- places of inboxes

-- a lane's inbox stands within
pub inbox_within : (nodes lane : ℕ) → 0 < nodes → lane < lane_count nodes → lane / nodes < 2 * nodes
inbox_within nodes lane some_node lt =
    (div-lt_iff_lt-mul {k = nodes} {x = lane} {y = 2 * nodes} some_node).1 (subst (λ (c : ℕ). lane < c) (sym (mul_assoc 2 nodes nodes)) lt)

-- two lanes to one node have two inboxes
pub inbox_apart : (nodes lane other : ℕ) → other ≢ lane → other % nodes ≡ lane % nodes → other / nodes ≢ lane / nodes
inbox_apart nodes lane other apart same e = apart (sym (div-add-mod other nodes) ∙ ((λ i. nodes * e i + same i) ∙ div-add-mod lane nodes))

-- ---- after a step on a lane

-- the node, what is known of one lane and the turns of that lane may have changed
pub record IsChange (part : Part) (me nodes : ℕ) (turns turns' inbox_turns inbox_turns' : List ℕ) (lane : ℕ) (o : Outbound) (i : Inbound) : Type 0 where
  pub lane_ok : lane < lane_count nodes
  pub turns_long : length turns' ≡ length turns
  pub inbox_turns_long : length inbox_turns' ≡ length inbox_turns
  pub turn : get_or turns' lane 0 ≡ o.sent % 4
  pub turns_same : (other : ℕ) → other ≢ lane → get_or turns' other 0 ≡ get_or turns other 0
  pub taken : receiver_of nodes lane ≡ me → get_or inbox_turns' (lane / nodes) 0 ≡ i.taken % 4
  pub taken_same : (other : ℕ) → other ≢ lane → receiver_of nodes other ≡ me → get_or inbox_turns' (other / nodes) 0 ≡ get_or inbox_turns (other / nodes) 0

pub inside_changed : (part : Part) (node : NodeOf) (me nodes : ℕ) (turns turns' inbox_turns inbox_turns' : List ℕ) (lane : ℕ) (schedule : List Event)
    (next node' : NodeOf) (o : Outbound) (i : Inbound) → FitsInside part node me nodes turns inbox_turns
    → IsChange part me nodes turns turns' inbox_turns inbox_turns' lane o i → IsShown (informed schedule (with_lane_known lane next o i part)) → node' ≡ next
    → next.cache.me ≡ me_of part → next.cache.nodes ≡ nodes_in part
    → FitsInside (informed schedule (with_lane_known lane next o i part)) node' me nodes turns' inbox_turns'
inside_changed part node me nodes turns turns' inbox_turns inbox_turns' lane schedule next node' o i f c shown node_is same_me same_nodes =
    let out_in : lane < length part.outbound = subst (λ (n : ℕ). lane < n) (sym f.outbound_long) c.lane_ok in
    let in_in : lane < length part.inbound = subst (λ (n : ℕ). lane < n) (sym f.inbound_long) c.lane_ok in
    let out_here : get_or (set part.outbound lane o) lane no_outbound ≡ o = get_or-set_same part.outbound lane o no_outbound out_in in
    let in_here : get_or (set part.inbound lane i) lane no_inbound ≡ i = get_or-set_same part.inbound lane i no_inbound in_in in
    record {
      shown = shown;
      node_is = node_is;
      me_is = f.me_is ∙ sym same_me;
      nodes_is = f.nodes_is ∙ sym same_nodes;
      some_node = f.some_node;
      outbound_long = length-set part.outbound lane o ∙ f.outbound_long;
      inbound_long = length-set part.inbound lane i ∙ f.inbound_long;
      turns_long = c.turns_long ∙ f.turns_long;
      inbox_turns_long = c.inbox_turns_long ∙ f.inbox_turns_long;
      turns_are = λ other lt. elim (cases_eq other lane) [
        | inl e ↦ subst (λ (l : ℕ). get_or turns' l 0 ≡ (get_or (set part.outbound lane o) l no_outbound).sent % 4) (sym e)
            (c.turn ∙ ap (λ (u : Outbound). u.sent % 4) (sym out_here))
        | inr apart ↦ c.turns_same other apart
            ∙ (f.turns_are other lt ∙ ap (λ (u : Outbound). u.sent % 4) (sym (get_or-set_other part.outbound lane other o no_outbound apart)))
      ];
      taken_are = λ other lt is. elim (cases_eq other lane) [
        | inl e ↦ subst (λ (l : ℕ). get_or inbox_turns' (l / nodes) 0 ≡ (get_or (set part.inbound lane i) l no_inbound).taken % 4) (sym e)
            (c.taken (subst (λ (l : ℕ). receiver_of nodes l ≡ me) e is) ∙ ap (λ (u : Inbound). u.taken % 4) (sym in_here))
        | inr apart ↦ c.taken_same other apart is
            ∙ (f.taken_are other lt is ∙ ap (λ (u : Inbound). u.taken % 4) (sym (get_or-set_other part.inbound lane other i no_inbound apart)))
      ];
    }

-- ---- the calls

module _ (part : Part) (node : NodeOf) (me nodes : ℕ) (turns inbox_turns : List ℕ) (f : FitsInside part node me nodes turns inbox_turns) (cell : CellId)
    (at : IsInLane part cell) where
  abbrev pub lane : ℕ
  lane = lane_at_cell part cell

  lane_here : lane < lane_count nodes
  lane_here = subst (λ (n : ℕ). lane < lane_count n) (sym f.nodes_is) at.lane

  pub inbox_there : lane_number nodes cell / nodes < length inbox_turns
  inbox_there = grind (arith, inbox_within, lane_here)

  -- the turns stay
  unturned : (new : Part) (o : Outbound) (i : Inbound) → o.sent ≡ (outbound_at part lane).sent → i.taken ≡ (inbound_at part lane).taken
      → new ≡ informed new.schedule (with_lane_known lane part.node o i part) → IsShown new → FitsInside new node me nodes turns inbox_turns
  unturned new o i sent taken is shown =
      subst (λ (p : Part). FitsInside p node me nodes turns inbox_turns) (sym is)
      (inside_changed part node me nodes turns turns inbox_turns inbox_turns lane new.schedule part.node node o i f
      (record {
        lane_ok = lane_here;
        turns_long = refl;
        inbox_turns_long = refl;
        turn = f.turns_are lane lane_here ∙ ap (λ (k : ℕ). k % 4) (sym sent);
        turns_same = λ other apart. refl;
        taken = λ to_here. f.taken_are lane lane_here to_here ∙ ap (λ (k : ℕ). k % 4) (sym taken);
        taken_same = λ other apart to_here. refl;
      })
      (subst IsShown is shown) f.node_is refl refl)

  pub filled_inside : (new : Part) (index word : ℕ) → new ≡ informed new.schedule (filled lane index word part) → IsShown new
      → FitsInside new node me nodes turns inbox_turns
  filled_inside new index word is shown = unturned new (filled_out index word (outbound_at part lane)) (inbound_at part lane) refl refl is shown

  pub read_inside : (new : Part) (index word : ℕ) → new ≡ informed new.schedule (read lane index word part) → IsShown new
      → FitsInside new node me nodes turns inbox_turns
  read_inside new index word is shown = unturned new (outbound_at part lane) (read_in index word (inbound_at part lane)) refl refl is shown

  out_sent : (b : Bool) (word : ℕ) (o : Outbound) → (if b then looked_out word o else o).sent ≡ o.sent
  out_sent true word o = refl
  out_sent false word o = refl

  in_taken : (b sure : Bool) (word : ℕ) (i : Inbound) → (if b then looked_in sure word i else i).taken ≡ i.taken
  in_taken true sure word i = refl
  in_taken false sure word i = refl

  pub looked_inside : (new : Part) (word : ℕ) → new ≡ informed new.schedule (looked lane cell.number word part) → IsShown new
      → FitsInside new node me nodes turns inbox_turns
  looked_inside new word is shown =
      unturned new (if is_sending part lane cell.number then looked_out word (outbound_at part lane) else outbound_at part lane)
      (if is_receiving part lane cell.number then looked_in (has_sent_more part lane) word (inbound_at part lane) else inbound_at part lane)
      (out_sent (is_sending part lane cell.number) word (outbound_at part lane))
      (in_taken (is_receiving part lane cell.number) (has_sent_more part lane) word (inbound_at part lane)) is shown

  pub published_inside : (new : Part) (next node' : NodeOf) (turn : ℕ) → cell.number ≡ (outbound_at part lane).sent % 4 → turn ≡ (cell.number + 1) % 4
      → new ≡ informed new.schedule (published lane next part) → IsShown new → node' ≡ next → IsSameNode part new
      → FitsInside new node' me nodes (set turns (lane_number nodes cell) turn) inbox_turns
  published_inside new next node' turn number turn_is is shown node_is same =
      let o = published_out (outbound_at part lane) in
      let here : lane_number nodes cell ≡ lane = ap (λ (n : ℕ). lane_number n cell) f.nodes_is in
      let within : lane < length turns = subst (λ (n : ℕ). lane < n) (sym f.turns_long) lane_here in
      let same' : IsSameNode part (informed new.schedule (published lane next part)) = subst (λ (p : Part). IsSameNode part p) is same in
      subst (λ (p : Part). FitsInside p node' me nodes (set turns (lane_number nodes cell) turn) inbox_turns) (sym is)
      (inside_changed part node me nodes turns (set turns (lane_number nodes cell) turn) inbox_turns inbox_turns lane new.schedule next node' o
      (inbound_at part lane) f
      (record {
        lane_ok = lane_here;
        turns_long = length-set turns (lane_number nodes cell) turn;
        inbox_turns_long = refl;
        turn = subst (λ (l : ℕ). get_or (set turns l turn) lane 0 ≡ o.sent % 4) (sym here) (get_or-set_same turns lane turn 0 within ∙ omega arith);
        turns_same = λ other apart. get_or-set_other turns (lane_number nodes cell) other turn 0 (λ e. apart (e ∙ here));
        taken = f.taken_are lane lane_here;
        taken_same = λ other apart to_here. refl;
      })
      (subst IsShown is shown) node_is same'.me (ap (λ z. z.nodes) same'.sized))

  pub freed_inside : (new : Part) (next node' : NodeOf) (turn : ℕ) → cell.receiver ≡ me_of part → cell.number ≡ (inbound_at part lane).taken % 4
      → turn ≡ (cell.number + 1) % 4 → new ≡ informed new.schedule (freed lane next part) → IsShown new → node' ≡ next → IsSameNode part new
      → FitsInside new node' me nodes turns (set inbox_turns (lane_number nodes cell / nodes) turn)
  freed_inside new next node' turn mine number turn_is is shown node_is same =
      let i = freed_in (inbound_at part lane) in
      let here : lane_number nodes cell ≡ lane = ap (λ (n : ℕ). lane_number n cell) f.nodes_is in
      let receives : receiver_of nodes lane ≡ me = subst (λ (n : ℕ). receiver_of n lane ≡ me) (sym f.nodes_is) (at.receiver ∙ (mine ∙ sym f.me_is)) in
      let same' : IsSameNode part (informed new.schedule (freed lane next part)) = subst (λ (p : Part). IsSameNode part p) is same in
      subst (λ (p : Part). FitsInside p node' me nodes turns (set inbox_turns (lane_number nodes cell / nodes) turn)) (sym is)
      (inside_changed part node me nodes turns turns inbox_turns (set inbox_turns (lane_number nodes cell / nodes) turn) lane new.schedule next node'
      (outbound_at part lane) i f
      (record {
        lane_ok = lane_here;
        turns_long = refl;
        inbox_turns_long = length-set inbox_turns (lane_number nodes cell / nodes) turn;
        turn = f.turns_are lane lane_here;
        turns_same = λ other apart. refl;
        taken = λ to_here. subst (λ (l : ℕ). get_or (set inbox_turns (lane_number nodes cell / nodes) turn) (l / nodes) 0 ≡ i.taken % 4) here
            (get_or-set_same inbox_turns (lane_number nodes cell / nodes) turn 0 inbox_there ∙ omega arith);
        taken_same = λ other apart to_here. get_or-set_other inbox_turns (lane_number nodes cell / nodes) (other / nodes) turn 0
            (λ e. inbox_apart nodes lane other apart (to_here ∙ sym receives) (e ∙ ap (λ (l : ℕ). l / nodes) here));
      })
      (subst IsShown is shown) node_is same'.me (ap (λ z. z.nodes) same'.sized))
