-- What an end knows of the next cell after a look and a read.
use Rattle.std.proofs.Common.{◌≡◌, ◌≢◌, ℕ, ◌%◌, ◌<◌, Bool, true, false, List, [], ◌∷◌, length, set, refl, sym, ap, subst, ◌∙◌}
use Rattle.std.proofs.lemmas.{Bool.{and_from, eq-eqb, ne_eqb}, List.{get_or-set_same, length-set}}
use Rattle.std.specs.Prelude.{◌&&◌, not, if◌then◌else◌}
use Rattle.sci_lanes.specs.declared.{cell.CellId.{CellId}, view.{Inbound.{Inbound}, Outbound.{Outbound}, Part.{Part}}}
use Rattle.sci_lanes.specs.Cells.{lane_count, receiver_of, sender_of}
use Rattle.sci_lanes.specs.Shown.{inbound_at, IsSeen, me_of, no_inbound, no_outbound, outbound_at}
use Rattle.sci_lanes.specs.Knowing.{found_first, has_sent_more, is_receiving, is_sending, looked_in, looked_out, read_in, filled_out}
use Rattle.sci_lanes.specs.Telling.{IsFront, IsShown}
use Rattle.sci_lanes.specs.Ends.{EndOf, IsNextToSend, IsNextToTake, informed_at, lane_at_cell, looked_at, nodes_in, read_at, filled_at}
use Rattle.sci_words.specs.declared.event.Event.{Event}
use Rattle.sci_core.specs.Core.{lane_at}
use Rattle.sci_lanes.proofs.Seats.{sends_in, shown_nodes, takes_in}
use Rattle.sci_station.proofs.StillEnds.{fill_still, look_still, still_sends, still_takes}

lane_in_part : (part : Part) (lane : ℕ) (shown : IsShown part) → lane < lane_count (nodes_in part) → lane < lane_count shown.core.size.nodes
lane_in_part part lane shown lt = subst (λ (n : ℕ). lane < lane_count n) (shown_nodes part shown) lt

outbound_within : (part : Part) (lane : ℕ) → IsShown part → lane < lane_count (nodes_in part) → lane < length part.outbound
outbound_within part lane shown lt = subst (λ (n : ℕ). lane < n) (sym shown.outbound_long) (lane_in_part part lane shown lt)

inbound_within : (part : Part) (lane : ℕ) → IsShown part → lane < lane_count (nodes_in part) → lane < length part.inbound
inbound_within part lane shown lt = subst (λ (n : ℕ). lane < n) (sym shown.inbound_long) (lane_in_part part lane shown lt)

if_true : {A : Type 0} (b : Bool) (x y : A) → b ≡ true → (if b then x else y) ≡ x
if_true true x y e = refl
if_true false x y e = cc

-- ---- looks

-- a sender that finds 0 knows its cell empty
vacant_here : (end : EndOf) (es : List Event) (cell : CellId) (word : ℕ) → IsSeen end.part es → IsShown (informed_at es (looked_at cell word end)).part
    → IsNextToSend end.part cell → word ≡ 0 → (outbound_at (informed_at es (looked_at cell word end)).part (lane_at_cell end.part cell)).vacant ≡ true
vacant_here end es cell word seen shown next none =
    let new = informed_at es (looked_at cell word end) in
    let lane = lane_at_cell end.part cell in
    let at = sends_in new.part cell shown (still_sends end new cell (look_still end new cell word seen refl) next) in
    let b = is_sending end.part lane cell.number in
    let o = if b then looked_out word (outbound_at end.part lane) else outbound_at end.part lane in
    let long : length (set end.part.outbound lane o) ≡ length end.part.outbound = length-set end.part.outbound lane o in
    let within : lane < length end.part.outbound = subst (λ (n : ℕ). lane < n) long (outbound_within new.part lane shown at.lane) in
    let sends : b ≡ true = and_from _ _ (eq-eqb (sender_of (nodes_in end.part) lane) (me_of end.part) (at.sender ∙ next.mine))
    (eq-eqb cell.number ((outbound_at end.part lane).sent % 4) next.next) in
    let o_is : o ≡ looked_out word (outbound_at end.part lane) = if_true b _ _ sends in
    ap (λ (x : Outbound). x.vacant) (get_or-set_same end.part.outbound lane o no_outbound within ∙ o_is) ∙ eq-eqb word 0 none

pub looked_vacant : (end new : EndOf) (cell : CellId) (word : ℕ) → IsSeen end.part new.part.schedule → IsShown new.part → IsNextToSend end.part cell
    → new ≡ informed_at new.part.schedule (looked_at cell word end) → word ≡ 0 → (outbound_at new.part (lane_at_cell new.part cell)).vacant ≡ true
looked_vacant end new cell word seen shown next is none =
    subst (λ (e : EndOf). (outbound_at e.part (lane_at_cell e.part cell)).vacant ≡ true) (sym is)
    (vacant_here end new.part.schedule cell word seen (subst (λ (e : EndOf). IsShown e.part) is shown) next none)

first_found : (sure : Bool) (word : ℕ) → word ≢ 0 → found_first sure word ≡ word ∷ []
first_found sure word some = ap (λ (b : Bool). if b && not sure then [] else word ∷ []) (ne_eqb word 0 some)

-- what was found by a look
looked_here : (end : EndOf) (es : List Event) (cell : CellId) (word : ℕ) → IsSeen end.part es → IsShown (informed_at es (looked_at cell word end)).part
    → IsNextToTake end.part cell → (inbound_at (informed_at es (looked_at cell word end)).part (lane_at_cell end.part cell)).found ≡ found_first
    (has_sent_more end.part (lane_at_cell end.part cell)) word
looked_here end es cell word seen shown next =
    let new = informed_at es (looked_at cell word end) in
    let lane = lane_at_cell end.part cell in
    let at = takes_in new.part cell shown (still_takes end new cell (look_still end new cell word seen refl) next) in
    let b = is_receiving end.part lane cell.number in
    let sure = has_sent_more end.part lane in
    let i = if b then looked_in sure word (inbound_at end.part lane) else inbound_at end.part lane in
    let long : length (set end.part.inbound lane i) ≡ length end.part.inbound = length-set end.part.inbound lane i in
    let within : lane < length end.part.inbound = subst (λ (n : ℕ). lane < n) long (inbound_within new.part lane shown at.lane) in
    let takes : b ≡ true = and_from _ _ (eq-eqb (receiver_of (nodes_in end.part) lane) (me_of end.part) (at.receiver ∙ next.mine))
    (eq-eqb cell.number ((inbound_at end.part lane).taken % 4) next.next) in
    let i_is : i ≡ looked_in sure word (inbound_at end.part lane) = if_true b _ _ takes in
    ap (λ (x : Inbound). x.found) (get_or-set_same end.part.inbound lane i no_inbound within ∙ i_is)

-- a receiver that finds another word has found it
pub looked_found : (end new : EndOf) (cell : CellId) (word : ℕ) → IsSeen end.part new.part.schedule → IsShown new.part → IsNextToTake end.part cell
    → new ≡ informed_at new.part.schedule (looked_at cell word end) → word ≢ 0 → (inbound_at new.part (lane_at_cell new.part cell)).found ≡ word ∷ []
looked_found end new cell word seen shown next is some =
    subst (λ (e : EndOf). (inbound_at e.part (lane_at_cell e.part cell)).found ≡ word ∷ []) (sym is)
    (looked_here end new.part.schedule cell word seen (subst (λ (e : EndOf). IsShown e.part) is shown) next
    ∙ first_found (has_sent_more end.part (lane_at_cell end.part cell)) word some)

-- ---- fills

pub filled_there : (end new : EndOf) (cell : CellId) (index word : ℕ) → IsSeen end.part new.part.schedule → IsShown new.part → IsNextToSend end.part cell
    → new ≡ informed_at new.part.schedule (filled_at cell index word end)
    → outbound_at new.part (lane_at_cell new.part cell) ≡ filled_out index word (outbound_at end.part (lane_at_cell end.part cell))
filled_there end new cell index word seen shown next is =
    let lane = lane_at_cell end.part cell in
    let o = filled_out index word (outbound_at end.part lane) in
    let still = fill_still end new cell index word seen is in
    let at = sends_in new.part cell shown (still_sends end new cell still next) in
    let same : lane_at_cell new.part cell ≡ lane = ap (λ (e : EndOf). lane_at_cell e.part cell) is in
    let long : length new.part.outbound ≡ length end.part.outbound = ap (λ (e : EndOf). length e.part.outbound) is ∙ length-set end.part.outbound lane o in
    let within : lane < length end.part.outbound =
    subst (λ (n : ℕ). lane < n) long
    (subst (λ (l : ℕ). l < length new.part.outbound) same (outbound_within new.part (lane_at_cell new.part cell) shown at.lane)) in
    subst (λ (e : EndOf). outbound_at e.part (lane_at_cell e.part cell) ≡ o) (sym is) (get_or-set_same end.part.outbound lane o no_outbound within)

-- ---- reads

pub read_found : (end new : EndOf) (cell : CellId) (index word : ℕ) → IsShown end.part → IsNextToTake end.part cell
    → new ≡ informed_at new.part.schedule (read_at cell index word end)
    → inbound_at new.part (lane_at_cell new.part cell) ≡ read_in index word (inbound_at end.part (lane_at_cell end.part cell))
read_found end new cell index word shown next is =
    let lane = lane_at_cell end.part cell in
    let at = takes_in end.part cell shown next in
    let within = inbound_within end.part lane shown at.lane in
    subst (λ (e : EndOf). inbound_at e.part (lane_at_cell e.part cell) ≡ read_in index word (inbound_at end.part lane)) (sym is)
    (get_or-set_same end.part.inbound lane (read_in index word (inbound_at end.part lane)) no_inbound within)

-- ---- the oldest packet

pub front_found : (part : Part) (cell : CellId) (shown : IsShown part) → IsNextToTake part cell → 0 < length (inbound_at part (lane_at_cell part cell)).found
    → IsFront (lane_at shown.core (lane_at_cell part cell)) (inbound_at part (lane_at_cell part cell)).found
front_found part cell shown next some =
    let lane = lane_at_cell part cell in
    let at = takes_in part cell shown next in
    shown.found lane (lane_in_part part lane shown at.lane)
    (subst (λ (n : ℕ). receiver_of n lane ≡ me_of part) (shown_nodes part shown) (at.receiver ∙ next.mine)) some
