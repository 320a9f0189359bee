-- Where the next cells to take from begin.
use Rattle.std.proofs.Common.{◌≡◌, ℕ, ◌+◌, ◌*◌, ◌/◌, ◌%◌, ◌<◌, inl, inr, List, [], ◌∷◌, ◌++◌, length, get_or, set, sym, ap, subst, ◌∙◌, arith, mul_comm}
use Rattle.std.proofs.lemmas.Bool.{cases_eq, cases_lt}
use Rattle.std.proofs.lemmas.List.{length-set, length_push, get_or-set_same, get_or-set_other, get_or_append_left, get_or_push}
use Rattle.std.proofs.Math.Nat.{div-add-mod}
use Rattle.sci_core.specs.Node.{NodeOf}
use Rattle.sci_lanes.specs.declared.{cell.CellId.{CellId}, view.Part.{Part}}
use Rattle.sci_lanes.specs.{Cells.{cell_place, receiver_of, lane_number, lane_count}, Shown.{inbound_at}}
use Rattle.sci_lanes.specs.Ends.{ArePlaces, FitsInside, IsNextToTake, lane_at_cell}
use Rattle.sci_lanes.proofs.{Inside.{inbox_within}, Seats.{takes_in}}

-- ---- the first places

-- those of the first inboxes
pub record AreFirst (nodes me count : ℕ) (places : List ℕ) : Type 0 where
  pub long : length places ≡ count
  pub are : (inbox : ℕ) → inbox < count → get_or places inbox 0 ≡ cell_place (inbox * nodes + me) 0

pub one_more : (nodes me count place : ℕ) (places more : List ℕ) → AreFirst nodes me count places → place ≡ (count * nodes + me) * 4 * 11
    → more ≡ places ++ place ∷ [] → AreFirst nodes me (count + 1) more
unfolding cell_place
one_more nodes me count place places more first is more_is = grind (arith, length_push, cases_lt, get_or_append_left, get_or_push)

-- ---- a place that is looked up

-- the lane of an inbox
inbox_lane : (nodes lane me : ℕ) → receiver_of nodes lane ≡ me → lane / nodes * nodes + me ≡ lane
inbox_lane nodes lane me is = (λ i. mul_comm (lane / nodes) nodes i + (sym is) i) ∙ div-add-mod lane nodes

module _ (part : Part) (node : NodeOf) (me nodes : ℕ) (turns inbox_turns places : List ℕ) (f : FitsInside part node me nodes turns inbox_turns)
    (p : ArePlaces nodes me inbox_turns places) (cell : CellId) (next : IsNextToTake part cell) where
  abbrev lane : ℕ
  lane = lane_number nodes cell

  here : lane ≡ lane_at_cell part cell
  here = ap (λ (n : ℕ). lane_number n cell) f.nodes_is

  receives : receiver_of nodes lane ≡ me
  receives = ap (λ (n : ℕ). receiver_of n (lane_number n cell)) f.nodes_is ∙ ((takes_in part cell f.shown next).receiver ∙ (next.mine ∙ sym f.me_is))

  lane_below : lane < lane_count nodes
  lane_below = subst (λ (n : ℕ). lane_number n cell < lane_count n) (sym f.nodes_is) (takes_in part cell f.shown next).lane

  pub inbox_below : lane_number nodes cell / nodes < 2 * nodes
  inbox_below = let some_node = f.some_node in inbox_within nodes lane (omega arith) lane_below

  pub inbox_listed : lane_number nodes cell / nodes < length places
  inbox_listed = subst (λ (n : ℕ). lane_number nodes cell / nodes < n) (sym p.long) inbox_below

  pub place_here : get_or places (lane_number nodes cell / nodes) 0 ≡ cell_place (lane_number nodes cell) cell.number
  place_here =
      let turn : get_or inbox_turns (lane / nodes) 0 ≡ cell.number =
      f.taken_are lane lane_below receives ∙ (ap (λ (l : ℕ). (inbound_at part l).taken % 4) here ∙ sym next.next) in
      p.are (lane / nodes) inbox_below ∙ (λ i. cell_place (inbox_lane nodes lane me receives i) (turn i))

  -- the next cell of the lane begins elsewhere
  pub places_freed : (turn place : ℕ) → place ≡ cell_place (lane_number nodes cell) turn + 0
      → ArePlaces nodes me (set inbox_turns (lane_number nodes cell / nodes) turn) (set places (lane_number nodes cell / nodes) place)
  places_freed turn place is = record {
    long = length-set places (lane / nodes) place ∙ p.long;
    are = λ inbox lt. elim (cases_eq inbox (lane / nodes)) [
      | inl same ↦
          subst (λ (n : ℕ). get_or (set places (lane / nodes) place) n 0 ≡ cell_place (n * nodes + me) (get_or (set inbox_turns (lane / nodes) turn) n 0))
          (sym same)
          (get_or-set_same places (lane / nodes) place 0 inbox_listed
          ∙ (place_is ∙ (λ i. cell_place (sym (inbox_lane nodes lane me receives) i)
          (sym (get_or-set_same inbox_turns (lane / nodes) turn 0 turns_listed) i))))
      | inr apart ↦
          get_or-set_other places (lane / nodes) inbox place 0 apart
          ∙ (p.are inbox lt ∙ ap (λ (t : ℕ). cell_place (inbox * nodes + me) t) (sym (get_or-set_other inbox_turns (lane / nodes) inbox turn 0 apart)))
    ];
  }
    where
      place_is : place ≡ cell_place lane turn
      place_is = omega (arith, is)

      turns_listed : lane / nodes < length inbox_turns
      turns_listed = subst (λ (n : ℕ). lane / nodes < n) (sym f.inbox_turns_long) inbox_below
