use Rattle.std.proofs.{Common.{◌≡◌, ◌/◌, ℕ, [], get_or, sym, ap, subst, ◌∙◌, arith}, lemmas.List.{get_or_read}}
use Rattle.sci_lanes.specs.{Cells.{lane_number}, declared.cell.CellId.{CellId}, Shown.{informed, me_of}}
use Rattle.sci_lanes.specs.Telling.{IsShown, state_of}
use Rattle.sci_lanes.specs.Ends.{EndOf, IsNextToTake, informed_at, lane_at_cell, looked_at, nodes_in}
use Rattle.sci_core.specs.{declared.lane.LaneKind.{LaneKind}, Core.{Core, lane_at, lane_of, lane_place}, Node.{NodeOf}}
use Rattle.sci_lanes.proofs.{Seats.{shown_nodes, takes_in}, Inside.{looked_inside}, CellPlaces.{inbox_listed, place_here}}
use Rattle.sci_lanes.proofs.end.LaneEnd.look_for.Goals as goal

pub look-requires-clause-place : goal.look-requires-clause-place
look-requires-clause-place c =
    let s = c.self.inside in
    let f = c.self.invariant.0 in
    let cell = c.next_to_take-cell.result in
    let next = subst (λ (e : EndOf). IsNextToTake e.part cell) (sym c.self.view_is) c.next_to_take-cell.ensures.next in
    let listed = inbox_listed s.seat.part _ _ _ _ _ s.inbox_places.items f c.self.invariant.1 cell next in
    let read = subst (λ (n : ℕ). c.index-place.result.now ≡ get_or s.inbox_places.items n c.index-place.result.now) c.inbox.ensures.place
    c.index-place.ensures in
    let found = get_or_read s.inbox_places.items (lane_number s.nodes cell / s.nodes) c.index-place.result.now listed read 0 in
    let here = place_here s.seat.part _ _ _ _ _ s.inbox_places.items f c.self.invariant.1 cell next in
    omega arith

pub invariant_of-self : goal.invariant_of-self
invariant_of-self c =
    let s = c.self.inside in
    let f = c.self.invariant.0 in
    let cell = c.next_to_take-cell.result in
    let next = subst (λ (e : EndOf). IsNextToTake e.part cell) (sym c.self.view_is) c.next_to_take-cell.ensures.next in (
      looked_inside s.seat.part _ _ _ _ _ f cell (takes_in s.seat.part cell f.shown next) c.look.new.self.part c.look.result
          (ap (λ (e : EndOf). e.part) c.look.ensures.part) c.look.ensures.shown,
      c.self.invariant.1,
    )

-- no packet is in the lane, in the state that is known then
none_there : (old new : EndOf) (cell : CellId) (word : ℕ) (kind : LaneKind) (from : ℕ) → IsShown new.part
    → new ≡ informed_at new.part.schedule (looked_at cell word old) → IsNextToTake old.part cell → cell.kind ≡ kind → cell.sender ≡ from
    → lane_at (state_of (informed new.part.schedule old.part)) (lane_at_cell old.part cell) ≡ [] → lane_of (state_of new.part) kind from (me_of new.part) ≡ []
none_there old new cell word kind from s is next k f empty =
    let node : new.part.node ≡ old.part.node = ap (λ (e : EndOf). e.part.node) is in
    let state : state_of (informed new.part.schedule old.part) ≡ state_of new.part = ap (λ (n : NodeOf). state_of (record new.part { node = n })) (sym node) in
    let nodes : nodes_in old.part ≡ (state_of new.part).size.nodes =
    ap (λ (n : NodeOf). n.cache.nodes) (sym node) ∙ (shown_nodes new.part s ∙ ap (λ (c : Core). c.size.nodes) (sym s.leads)) in
    let mine : cell.receiver ≡ me_of new.part = next.mine ∙ ap (λ (n : NodeOf). n.cache.me) (sym node) in
    let lane : lane_at_cell old.part cell ≡ lane_place (state_of new.part).size.nodes kind from (me_of new.part) =
    (λ i. lane_place (nodes i) (k i) (f i) (mine i)) in
    ap (lane_at (state_of new.part)) (sym lane) ∙ subst (λ (c : Core). lane_at c (lane_at_cell old.part cell) ≡ []) state empty

pub returns-clause-empty : goal.returns-clause-empty
returns-clause-empty c = λ zero_.
    let s = c.self.inside in
    let cell = c.next_to_take-cell.result in
    let next = subst (λ (e : EndOf). IsNextToTake e.part cell) (sym c.self.view_is) c.next_to_take-cell.ensures.next in
    none_there s.seat c.look.new.self cell c.look.result c.args.kind c.args.from c.look.ensures.shown c.look.ensures.part next
    c.next_to_take-cell.ensures.cell.0 c.next_to_take-cell.ensures.cell.1 (c.look.ensures.empty next zero_)
