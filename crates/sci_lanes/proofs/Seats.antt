-- What a seat that has one node owes at each step, and what it is after it.
use Rattle.std.proofs.Common.{◌≡◌, ℕ, List, ◌+◌, ◌<◌, ◌⊎◌, inl, inr, true, [], sym, ap, subst, ◌∙◌, arith}
use Rattle.std.proofs.lemmas.Bool.{and_from, eq-eqb}
use mathlib.Core.Option.{none}
use Rattle.atomic_table.specs.{Table.{Me, step, Allows}, Seated.{TableId}}
use Rattle.sci_words.specs.declared.{extent.Extent.{Extent}, event.Event.{Event}}
use Rattle.sci_core.specs.{Size.{size_of}, Node.{NodeOf}}
use Rattle.sci_core.proofs.WellFormed.WellFormedSteps.{reached_well}
use Rattle.sci_lanes.specs.declared.{cell.CellId.{CellId}, view.{Part.{Part}, View.{View}}}
use Rattle.sci_lanes.specs.Cells.{cell_place, own_place, lane_count, sender_of, receiver_of, lane_number}
use Rattle.sci_lanes.specs.Shown.{me_of, single, informed, IsKept}
use Rattle.sci_lanes.specs.Knowing.{is_receiving, is_sending}
use Rattle.sci_lanes.specs.Telling.{part_of, IsShown, IsSending, IsTaking, IsBeating, Tells}
use Rattle.sci_lanes.specs.Plays.{lane_in, number_in, index_in, LooksAt, Looks, Fills, Reads, Publishes, Frees, Beats}
use Rattle.sci_lanes.specs.Ends.{EndOf, with_part, nodes_in, lane_at_cell, IsNextToSend, IsNextToTake, MayFill, MayRead, IsSeated}
use Rattle.sci_lanes.proofs.{TableWords.{place_within}, Allowed.{lane_found, number_found, index_found, looks}}
use Rattle.sci_lanes.proofs.{Ends.{fills, reads}, Events.{sent_place, publishes, frees, beats}}

-- ---- cells

pub shown_nodes : (part : Part) (s : IsShown part) → nodes_in part ≡ s.core.size.nodes
shown_nodes part s = ap (λ node. node.cache.nodes) (sym s.here) ∙ ((reached_well s.core s.reached).each_part (me_of part) s.some_node).all

pub me_below : (part : Part) → IsShown part → me_of part < nodes_in part
me_below part s = subst (λ (n : ℕ). me_of part < n) (sym (shown_nodes part s)) s.some_node

-- the lane of a cell that is next for an end
pub record IsInLane (part : Part) (cell : CellId) : Type 0 where
  pub lane : lane_at_cell part cell < lane_count (nodes_in part)
  pub sender : sender_of (nodes_in part) (lane_at_cell part cell) ≡ cell.sender
  pub receiver : receiver_of (nodes_in part) (lane_at_cell part cell) ≡ cell.receiver
  pub number : cell.number < 4

in_lane : (part : Part) (cell : CellId) → cell.sender < nodes_in part → cell.receiver < nodes_in part → cell.number < 4 → IsInLane part cell
in_lane part cell s r n = let at = sent_place (nodes_in part) cell.kind cell.sender cell.receiver s r in
    record { lane = at.0; sender = at.1; receiver = at.2; number = n }

pub sends_in : (part : Part) (cell : CellId) → IsShown part → IsNextToSend part cell → IsInLane part cell
sends_in part cell s n = let below = me_below part s in let mine = n.mine in let next = n.next in in_lane part cell (omega arith) n.other (omega arith)

pub takes_in : (part : Part) (cell : CellId) → IsShown part → IsNextToTake part cell → IsInLane part cell
takes_in part cell s n = let below = me_below part s in let mine = n.mine in let next = n.next in in_lane part cell n.other (omega arith) (omega arith)

pub either_in : (part : Part) (cell : CellId) → IsShown part → IsNextToSend part cell ⊎ IsNextToTake part cell → IsInLane part cell
either_in part cell s (inl n) = sends_in part cell s n
either_in part cell s (inr n) = takes_in part cell s n

-- ---- steps

-- what a step requires
abbrev pub Asks : Extent × ℕ → TableId → TableId → ℕ → Me (Unit {0}) View → ℕ → (ℕ → ℕ) → (ℕ → Me (Unit {0}) View → Type 0) → Type 0
Asks key table seat id knows place f told = (seat ≡ table) × (place < table.words) × Allows (IsKept (size_of key.0 key.1)) table.slots id knows place f told

-- the nodes of the key are those of the part
pub key_nodes : (key : Extent × ℕ) (table seat : TableId) (knows : Me (Unit {0}) View) → IsSeated key table seat knows
    → nodes_in (part_of knows.0) ≡ key.0.nodes
key_nodes key table seat knows s = ap (λ z. z.nodes) s.sized

pub place_in_table : (key : Extent × ℕ) (table seat : TableId) (knows : Me (Unit {0}) View) → IsSeated key table seat knows → (lane turn index place : ℕ)
    → lane < lane_count (nodes_in (part_of knows.0)) → index < 11 → place ≡ cell_place lane turn + index → place < table.words
place_in_table key table seat knows s lane turn index place lt few is = grind (arith, place_within, key_nodes)

pub part_after : (how : List Event → Type 0) (part next : Part) (after : Me (Unit {0}) View) (t : Tells how part next after)
    → part_of after.0 ≡ informed t.schedule next
part_after how part next after t = ap (λ (k : Me (Unit {0}) View). part_of k.0) t.view

-- what is told of the schedule, that the part knows then
pub went_after : (how : List Event → Type 0) (part next : Part) (after : Me (Unit {0}) View) (t : Tells how part next after) → how (part_of after.0).schedule
went_after how part next after t = subst how (sym (ap (λ (p : Part). p.schedule) (part_after how part next after t))) t.went

-- the same of the end as contracts see it
pub went_now : (how : Part → List Event → Type 0) (old now : EndOf) (next : Part) (after : Me (Unit {0}) View) → old ≡ now
    → Tells (how old.part) old.part next after → how now.part (part_of after.0).schedule
went_now how old now next after view t =
    subst (λ (e : EndOf). how e.part (part_of after.0).schedule) view (went_after (how old.part) old.part next after t)

-- what a look told
pub look_told : (knows after : Me (Unit {0}) View) (cell : CellId) (nodes place word slots : ℕ)
    → IsNextToSend (part_of knows.0) cell ⊎ IsNextToTake (part_of knows.0) cell → IsShown (part_of knows.0) → nodes ≡ nodes_in (part_of knows.0)
    → place ≡ cell_place (lane_number nodes cell) cell.number + 0 → Looks (step slots place 0 0 none) knows word after
    → LooksAt (lane_at_cell (part_of knows.0) cell) cell.number word (part_of knows.0) after
look_told knows after cell nodes place word slots next s nodes_are is told =
    let part = part_of knows.0 in
    let at = either_in part cell s next in
    let place_is : place ≡ cell_place (lane_at_cell part cell) cell.number + 0 =
    is ∙ ap (λ (n : ℕ). cell_place (lane_number n cell) cell.number + 0) nodes_are in
    let number_is : number_in place ≡ cell.number =
    (let few = at.number in let e = ap number_in place_is ∙ number_found (lane_at_cell part cell) cell.number 0 (omega arith) in omega arith) in
    subst (λ (l : ℕ). LooksAt l cell.number word part after) (ap lane_in place_is ∙ lane_found (lane_at_cell part cell) cell.number 0 (omega arith))
    (subst (λ (n : ℕ). LooksAt (lane_in place) n word part after) number_is told)

-- the sender's cell is the one that is next
pub is_sending_here : (part : Part) (cell : CellId) → IsShown part → IsNextToSend part cell → is_sending part (lane_at_cell part cell) cell.number ≡ true
is_sending_here part cell s n = grind (arith, sends_in, and_from, eq-eqb)

pub is_receiving_here : (part : Part) (cell : CellId) → IsShown part → IsNextToTake part cell → is_receiving part (lane_at_cell part cell) cell.number ≡ true
is_receiving_here part cell s n = grind (arith, takes_in, and_from, eq-eqb)

-- what contracts see of a seat after a step
pub view_after : (seat later : TableId) (knows after : Me (Unit {0}) View) (now : EndOf) (how : List Event → Type 0) (next : Part)
    → record { table = seat; part = part_of knows.0 } ≡ now → later ≡ seat → Tells how now.part next after
    → record { table = later; part = part_of after.0 } ≡ with_part now (informed (part_of after.0).schedule next)
view_after seat later knows after now how next view same t = grind (arith, part_after)

-- ---- the other steps

-- a place in the cell, of the part's lane
place_now : (part : Part) (cell : CellId) (nodes place index : ℕ) → nodes ≡ nodes_in part → place ≡ cell_place (lane_number nodes cell) cell.number + index
    → place ≡ cell_place (lane_at_cell part cell) cell.number + index
place_now part cell nodes place index nodes_are is = is ∙ ap (λ (n : ℕ). cell_place (lane_number n cell) cell.number + index) nodes_are

-- a step of a seat with one node is one of the seat
allowed_seated : (key : Extent × ℕ) (slots id place at : ℕ) (knows : Me (Unit {0}) View) (part : Part) (f : ℕ → ℕ) (told : ℕ → Me (Unit {0}) View → ℕ
    → Me (Unit {0}) View → Type 0)
    → knows ≡ (single part, []) → place ≡ at → Allows (IsKept (size_of key.0 key.1)) slots id (single part, []) at f (told at (single part, []))
    → Allows (IsKept (size_of key.0 key.1)) slots id knows place f (told place knows)
allowed_seated key slots id place at knows part f told seated is allowed = grind arith

-- a step on a word of a cell is one of the seat, where it is one of a seat with this one node
asks_at : (key : Extent × ℕ) (table seat : TableId) (id : ℕ) (knows : Me (Unit {0}) View) (s : IsSeated key table seat knows) (cell : CellId)
    (nodes index place : ℕ) (f : ℕ → ℕ) (told : ℕ → Me (Unit {0}) View → ℕ → Me (Unit {0}) View → Type 0) → IsInLane (part_of knows.0) cell
    → nodes ≡ nodes_in (part_of knows.0) → index < 11 → place ≡ cell_place (lane_number nodes cell) cell.number + index
    → Allows (IsKept (size_of key.0 key.1)) table.slots id (single (part_of knows.0), [])
    (cell_place (lane_at_cell (part_of knows.0) cell) cell.number + index) f
    (told (cell_place (lane_at_cell (part_of knows.0) cell) cell.number + index) (single (part_of knows.0), []))
    → Asks key table seat id knows place f (told place knows)
asks_at key table seat id knows s cell nodes index place f told at nodes_are few is allowed =
    let part = part_of knows.0 in
    let place_is = place_now part cell nodes place index nodes_are is in (
      s.same,
      place_in_table key table seat knows s (lane_at_cell part cell) cell.number index place at.lane few place_is,
      allowed_seated key table.slots id place _ knows part f told s.seated place_is allowed,
    )

pub look_asks : (key : Extent × ℕ) (table seat : TableId) (id : ℕ) (knows : Me (Unit {0}) View) (cell : CellId) (nodes place : ℕ)
    → IsSeated key table seat knows → nodes ≡ nodes_in (part_of knows.0)
    → IsNextToSend (part_of knows.0) cell ⊎ IsNextToTake (part_of knows.0) cell → place ≡ cell_place (lane_number nodes cell) cell.number + 0
    → Asks key table seat id knows place (λ n. n) (Looks (step table.slots place 0 0 none) knows)
look_asks key table seat id knows cell nodes place s nodes_are next is =
    let part = part_of knows.0 in
    let at = either_in part cell s.shown next in
    let lane = lane_at_cell part cell in
    asks_at key table seat id knows s cell nodes 0 place (λ n. n) (λ p k. Looks (step table.slots p 0 0 none) k) at nodes_are (omega arith) is
    (looks (size_of key.0 key.1) table.slots id lane cell.number part (subst (λ (n : ℕ). lane < lane_count n) (key_nodes key table seat knows s) at.lane)
    at.number)

module _ (key : Extent × ℕ) (table seat : TableId) (id : ℕ) (knows : Me (Unit {0}) View) (cell : CellId) (nodes place : ℕ) (s : IsSeated key table seat knows)
    (now : EndOf) (view : record { table = seat; part = part_of knows.0 } ≡ now)
    (nodes_are : nodes ≡ nodes_in now.part) where
  part_is : part_of knows.0 ≡ now.part
  part_is = ap (λ (e : EndOf). e.part) view

  nodes_here : nodes ≡ nodes_in (part_of knows.0)
  nodes_here = nodes_are ∙ ap nodes_in (sym part_is)

  pub fill_asks : (index word : ℕ) → MayFill now.part cell index → place ≡ cell_place (lane_number nodes cell) cell.number + index
      → Asks key table seat id knows place (λ n. word) (λ n. Fills (step table.slots place word 0 none) knows word)
  fill_asks index word may is =
      let part = part_of knows.0 in
      let m = subst (λ (p : Part). MayFill p cell index) (sym part_is) may in
      let at = sends_in part cell s.shown m.next in
      let lane = lane_at_cell part cell in
      let size_nodes = key_nodes key table seat knows s in
      asks_at key table seat id knows s cell nodes index place (λ n. word) (λ p k n. Fills (step table.slots p word 0 none) k word) at nodes_here m.within is
      (fills (size_of key.0 key.1) table.slots id lane cell.number index word part
      (record {
        lane_ok = subst (λ (n : ℕ). lane < lane_count n) size_nodes at.lane;
        sender = subst (λ (n : ℕ). sender_of n lane ≡ me_of part) size_nodes (at.sender ∙ m.next.mine);
        next = m.next.next;
        vacant = m.vacant;
        further = m.further;
        within = m.within;
        order = m.order;
      }))

  pub read_asks : (index : ℕ) → MayRead now.part cell index → place ≡ cell_place (lane_number nodes cell) cell.number + index
      → Asks key table seat id knows place (λ n. n) (Reads (step table.slots place 0 0 none) knows)
  read_asks index may is =
      let part = part_of knows.0 in
      let m = subst (λ (p : Part). MayRead p cell index) (sym part_is) may in
      let at = takes_in part cell s.shown m.next in
      let lane = lane_at_cell part cell in
      let size_nodes = key_nodes key table seat knows s in
      asks_at key table seat id knows s cell nodes index place (λ n. n) (λ p k. Reads (step table.slots p 0 0 none) k) at nodes_here m.within is
      (reads (size_of key.0 key.1) table.slots id lane cell.number index part
      (record {
        lane_ok = subst (λ (n : ℕ). lane < lane_count n) size_nodes at.lane;
        receiver = subst (λ (n : ℕ). receiver_of n lane ≡ me_of part) size_nodes (at.receiver ∙ m.next.mine);
        next = m.next.next;
        further = m.further;
        within = m.within;
        order = m.order;
      }))

  pub publish_asks : (first : ℕ) (event : Event) (next : NodeOf) → IsNextToSend now.part cell → IsSending now.part (lane_at_cell now.part cell) first event next
      → place ≡ cell_place (lane_number nodes cell) cell.number + 0
      → Asks key table seat id knows place (λ n. first) (λ n. Publishes event next (step table.slots place first 0 none) knows first)
  publish_asks first event next to_send may is =
      let part = part_of knows.0 in
      let m = subst (λ (p : Part). IsSending p (lane_at_cell p cell) first event next) (sym part_is) may in
      let to_send' = subst (λ (p : Part). IsNextToSend p cell) (sym part_is) to_send in
      asks_at key table seat id knows s cell nodes 0 place (λ n. first) (λ p k n. Publishes event next (step table.slots p first 0 none) k first)
      (sends_in part cell s.shown to_send') nodes_here (omega arith) is
      (publishes (size_of key.0 key.1) table.slots id (lane_at_cell part cell) cell.number first part event next to_send'.next m)

  pub free_asks : (event : Event) (next : NodeOf) → IsNextToTake now.part cell → IsTaking now.part (lane_at_cell now.part cell) event next
      → place ≡ cell_place (lane_number nodes cell) cell.number + 0
      → Asks key table seat id knows place (λ n. 0) (λ n. Frees event next (step table.slots place 0 0 none) knows 0)
  free_asks event next to_take may is =
      let part = part_of knows.0 in
      let m = subst (λ (p : Part). IsTaking p (lane_at_cell p cell) event next) (sym part_is) may in
      let to_take' = subst (λ (p : Part). IsNextToTake p cell) (sym part_is) to_take in
      asks_at key table seat id knows s cell nodes 0 place (λ n. 0) (λ p k n. Frees event next (step table.slots p 0 0 none) k 0)
      (takes_in part cell s.shown to_take') nodes_here (omega arith) is
      (frees (size_of key.0 key.1) table.slots id (lane_at_cell part cell) cell.number part event next to_take'.next m)

  -- ---- what they tell

  pub lane_told : (index : ℕ) → index < 11 → place ≡ cell_place (lane_number nodes cell) cell.number + index → lane_in place ≡ lane_at_cell now.part cell
  lane_told index few is = ap lane_in (place_now now.part cell nodes place index nodes_are is) ∙ lane_found (lane_at_cell now.part cell) cell.number index few

  index_told : (index : ℕ) → index < 11 → place ≡ cell_place (lane_number nodes cell) cell.number + index → index_in place ≡ index
  index_told index few is = ap index_in (place_now now.part cell nodes place index nodes_are is)
      ∙ index_found (lane_at_cell now.part cell) cell.number index few

  -- by a step on a word of the cell that leaves a part as f says, which looks at the lane and the word's number
  pub told_after : (later : TableId) (after : Me (Unit {0}) View) (index : ℕ) (how : Part → List Event → Type 0) (f : ℕ → ℕ → Part → Part) → index < 11
      → place ≡ cell_place (lane_number nodes cell) cell.number + index → later ≡ seat
      → Tells (how (part_of knows.0)) (part_of knows.0) (f (lane_in place) (index_in place) (part_of knows.0)) after
      → record { table = later; part = part_of after.0 } ≡ with_part now
      (informed (part_of after.0).schedule (f (lane_at_cell now.part cell) index now.part))
  told_after later after index how f few is same t =
      view_after seat later knows after now (how now.part) (f (lane_at_cell now.part cell) index now.part) view same
      (subst (λ (p : Part). Tells (how p) p (f (lane_at_cell now.part cell) index p) after) part_is
      (subst (λ (l : ℕ). Tells (how (part_of knows.0)) (part_of knows.0) (f l index (part_of knows.0)) after) (lane_told index few is)
      (subst (λ (i : ℕ). Tells (how (part_of knows.0)) (part_of knows.0) (f (lane_in place) i (part_of knows.0)) after) (index_told index few is) t)))

pub beat_asks : (key : Extent × ℕ) (table seat : TableId) (id : ℕ) (knows : Me (Unit {0}) View) (me nodes place : ℕ) (event : Event) (next : NodeOf)
    → IsSeated key table seat knows → (now : EndOf) → record { table = seat; part = part_of knows.0 } ≡ now
    → me ≡ me_of now.part → nodes ≡ nodes_in now.part → IsBeating now.part event next → place ≡ own_place nodes me
    → Asks key table seat id knows place (λ n. n) (Beats event next (step table.slots place 0 0 none) knows)
beat_asks key table seat id knows me nodes place event next s now view me_is nodes_are may is =
    let part = part_of knows.0 in
    let part_is : part ≡ now.part = ap (λ (e : EndOf). e.part) view in
    let size_nodes = key_nodes key table seat knows s in
    let at : place ≡ own_place key.0.nodes (me_of part) =
    is ∙ (ap (λ (m : ℕ). own_place nodes m) (me_is ∙ ap me_of (sym part_is))
    ∙ ap (λ (n : ℕ). own_place n (me_of part)) (nodes_are ∙ (ap nodes_in (sym part_is) ∙ size_nodes))) in
    let below : me_of part < key.0.nodes = subst (λ (n : ℕ). me_of part < n) size_nodes (me_below part s.shown) in
    let long = s.long in (
      s.same,
      omega arith,
      allowed_seated key table.slots id place (own_place key.0.nodes (me_of part)) knows part (λ n. n)
          (λ p k. Beats event next (step table.slots p 0 0 none) k) s.seated at
          (beats (size_of key.0 key.1) table.slots id part event next (subst (λ (p : Part). IsBeating p event next) (sym part_is) may)),
    )
