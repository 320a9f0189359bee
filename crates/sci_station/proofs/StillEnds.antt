-- Ends that have made no event.
use Rattle.std.proofs.Common.{◌≡◌, List, get_or, set, ℕ, Bool, true, false, refl, sym, ap, subst, ◌∙◌, arith}
use Rattle.std.proofs.lemmas.List.{append_assoc, get_or-set_other}
use Rattle.std.specs.Prelude.{if◌then◌else◌}
use Rattle.sci_core.proofs.Basics.Lists.{at_place_set}
use Rattle.sci_lanes.specs.declared.{cell.CellId.{CellId}, view.{Inbound.{Inbound}, Outbound.{Outbound}, Part.{Part}}}
use Rattle.sci_lanes.specs.Shown.{inbound_at, me_of, no_inbound, no_outbound, outbound_at, IsSeen}
use Rattle.sci_lanes.specs.Knowing.{has_sent_more, filled_out, is_receiving, is_sending, looked_in, looked_out, read_in, with_lane_known}
use Rattle.sci_lanes.specs.Ends.{EndOf, IsNextToSend, IsNextToTake, IsPlaceOf, filled_at, informed_at, lane_at_cell, looked_at, read_at, with_part}
use Rattle.sci_lanes.specs.Cells.{lane_number}
use Rattle.sci_words.specs.declared.event.Event.{Event}
use Rattle.sci_core.specs.Node.{NodeOf}
use Rattle.sci_core.specs.declared.lane.LaneKind.{LaneKind}
use Rattle.sci_station.specs.Ends.{HasSeen, IsSameEnd, IsStill, LeavesOthers, SeesFirst}
use Rattle.sci_history.proofs.Order.{all-append}

pub same_itself : (end : EndOf) → IsSameEnd end end
same_itself end = record { table = refl; node = record { me = refl; sized = refl } }

pub same_then : (old mid new : EndOf) → IsSameEnd old mid → IsSameEnd mid new → IsSameEnd old new
same_then old mid new one_ two = grind arith

-- what was seen, and what was seen then
pub seen_then : (p q : Part) (schedule : List Event) → me_of q ≡ me_of p → IsSeen p q.schedule → IsSeen q schedule → IsSeen p schedule
seen_then p q schedule me one two = grind (arith, append_assoc, all-append)

pub still_then : (old mid new : EndOf) → IsStill old mid → IsStill mid new → IsStill old new
still_then old mid new one two = grind (arith, seen_then)

pub same_of_still : (old new : EndOf) → IsStill old new → IsSameEnd old new
same_of_still old new still = grind arith

-- ---- the next cells stay

-- the lane of a cell stays
pub lane_still : (old new : EndOf) (cell : CellId) → IsStill old new → lane_at_cell new.part cell ≡ lane_at_cell old.part cell
lane_still old new cell still = ap (λ (n : NodeOf). lane_number n.cache.nodes cell) still.node

pub still_sends : (old new : EndOf) (cell : CellId) → IsStill old new → IsNextToSend old.part cell → IsNextToSend new.part cell
still_sends old new cell still next = grind (arith, lane_still)

pub still_takes : (old new : EndOf) (cell : CellId) → IsStill old new → IsNextToTake old.part cell → IsNextToTake new.part cell
still_takes old new cell still next = grind (arith, lane_still)

pub still_place : (old new : EndOf) (cell : CellId) (place : ℕ) → IsStill old new → IsPlaceOf old.part cell place → IsPlaceOf new.part cell place
still_place old new cell place still is = grind arith

-- ---- steps that are no event

known_still : (end new : EndOf) (lane : ℕ) (o : Outbound) (i : Inbound) → o.sent ≡ (outbound_at end.part lane).sent → i.taken ≡ (inbound_at end.part lane).taken
    → IsSeen end.part new.part.schedule → new ≡ informed_at new.part.schedule (with_part end (with_lane_known lane end.part.node o i end.part))
    → IsStill end new
known_still end new lane o i sent taken seen is = subst (IsStill end) (sym is) (record {
  table = refl;
  node = refl;
  seen = seen;
  sent = at_place_set (λ (k : ℕ) (x : Outbound). x.sent ≡ (outbound_at end.part k).sent) end.part.outbound lane o no_outbound (λ k. refl) sent;
  taken = at_place_set (λ (k : ℕ) (x : Inbound). x.taken ≡ (inbound_at end.part k).taken) end.part.inbound lane i no_inbound (λ k. refl) taken;
})

pub fill_still : (end new : EndOf) (cell : CellId) (index word : ℕ) → IsSeen end.part new.part.schedule
    → new ≡ informed_at new.part.schedule (filled_at cell index word end) → IsStill end new
fill_still end new cell index word seen is =
    known_still end new (lane_at_cell end.part cell) (filled_out index word (outbound_at end.part (lane_at_cell end.part cell)))
    (inbound_at end.part (lane_at_cell end.part cell)) refl refl seen is

pub read_still : (end new : EndOf) (cell : CellId) (index word : ℕ) → IsSeen end.part new.part.schedule
    → new ≡ informed_at new.part.schedule (read_at cell index word end) → IsStill end new
read_still end new cell index word seen is =
    known_still end new (lane_at_cell end.part cell) (outbound_at end.part (lane_at_cell end.part cell))
    (read_in index word (inbound_at end.part (lane_at_cell end.part cell))) refl refl seen is

if_same : {A : Type 0} (f : A → ℕ) (b : Bool) (x y : A) (n : ℕ) → f x ≡ n → f y ≡ n → f (if b then x else y) ≡ n
if_same f true x y n h k = h
if_same f false x y n h k = k

pub look_still : (end new : EndOf) (cell : CellId) (word : ℕ) → IsSeen end.part new.part.schedule
    → new ≡ informed_at new.part.schedule (looked_at cell word end) → IsStill end new
look_still end new cell word seen is =
    let lane = lane_at_cell end.part cell in
    known_still end new lane
    (if is_sending end.part lane cell.number then looked_out word (outbound_at end.part lane) else outbound_at end.part lane)
    (if is_receiving end.part lane cell.number then looked_in (has_sent_more end.part lane) word (inbound_at end.part lane) else inbound_at end.part lane)
    (if_same (λ (o : Outbound). o.sent) (is_sending end.part lane cell.number) _ _ _ refl refl)
    (if_same (λ (i : Inbound). i.taken) (is_receiving end.part lane cell.number) _ _ _ refl refl)
    seen
    is

-- ---- one cell is the next

pub next_same : (part : Part) (a b : CellId) → IsNextToTake part a → IsNextToTake part b → a.kind ≡ b.kind → a.sender ≡ b.sender → a ≡ b
next_same part a b one two kind sender = grind arith

-- the next cell to take from is the one in which the packet was seen
pub seen_there : (part : Part) (kind : LaneKind) (from first : ℕ) (cell : CellId) → SeesFirst part kind from first → IsNextToTake part cell
    → (cell.kind ≡ kind) × (cell.sender ≡ from) → HasSeen part (record { cell = cell; first = first })
seen_there part kind from first cell sees next is = grind (arith, next_same)

-- ---- other lanes

pub others_then : (lane : ℕ) (old mid new : Part) → LeavesOthers lane old mid → LeavesOthers lane mid new → LeavesOthers lane old new
others_then lane old mid new one two other apart = two other apart ∙ one other apart

pub known_others : (end new : EndOf) (lane : ℕ) (i : Inbound) → new.part.inbound ≡ set end.part.inbound lane i → LeavesOthers lane end.part new.part
known_others end new lane i is other apart =
    ap (λ (all : List Inbound). get_or all other no_inbound) is ∙ get_or-set_other end.part.inbound lane other i no_inbound apart
