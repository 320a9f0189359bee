use Rattle.std.proofs.Common.{◌≡◌, ◌≤◌, ◌⊎◌, ℕ, length, sym, ap, subst, ◌∙◌, arith}
use Rattle.sci_core.specs.{Core.{Core, lane_at, lane_of, lane_place}, Node.{NodeOf}}
use Rattle.sci_lanes.specs.{declared.cell.CellId.{CellId}, Shown.{informed, me_of}}
use Rattle.sci_lanes.specs.Ends.{EndOf, IsNextToSend, IsNextToTake, informed_at, lane_at_cell, looked_at, nodes_in}
use Rattle.sci_lanes.specs.Telling.{IsFull, IsShown, SomeLineWaits, state_of}
use Rattle.sci_lanes.proofs.{Seats.{either_in, shown_nodes}, Inside.{looked_inside}, Calls.{full_waits}}
use Rattle.sci_lanes.proofs.end.LaneEnd.look.Goals as goal

pub invariant_of-self : goal.invariant_of-self
invariant_of-self c =
    let s = c.self.inside in
    let f = c.self.invariant.0 in
    let cell = c.args.cell in
    let next = subst (λ (e : EndOf). IsNextToSend e.part cell ⊎ IsNextToTake e.part cell) (sym c.self.view_is) c.requires in (
      looked_inside s.seat.part _ _ _ _ _ f cell (either_in s.seat.part cell f.shown next) c.look.new.self.part c.look.result
          (ap (λ (e : EndOf). e.part) c.look.ensures.part) c.look.ensures.shown,
      c.self.invariant.1,
    )

pub returns-clause-waits : goal.returns-clause-waits
returns-clause-waits c = λ kind next some_word.
    let s = c.self.inside in
    let cell = c.args.cell in
    let next' = subst (λ (e : EndOf). IsNextToSend e.part cell) (sym c.self.view_is) next in
    subst SomeLineWaits (sym (ap (λ (e : EndOf). e.part.node) c.look.ensures.part))
    (full_waits s.seat.part cell c.look.new.self.part.schedule c.self.invariant.0.shown next' kind (c.look.ensures.full next' some_word))

-- the lane is full in the state that is known then
full_there : (old new : EndOf) (cell : CellId) (word : ℕ) → IsShown new.part → new ≡ informed_at new.part.schedule (looked_at cell word old)
    → IsNextToSend old.part cell → IsFull (informed new.part.schedule old.part) (lane_at_cell old.part cell)
    → 4 ≤ length (lane_of (state_of new.part) cell.kind (me_of new.part) cell.receiver)
full_there old new cell word s is next full =
    let node : new.part.node ≡ old.part.node = ap (λ (e : EndOf). e.part.node) is in
    let state : state_of (informed new.part.schedule old.part) ≡ state_of new.part = ap (λ (n : NodeOf). state_of (record new.part { node = n })) (sym node) in
    let nodes : nodes_in old.part ≡ (state_of new.part).size.nodes =
    ap (λ (n : NodeOf). n.cache.nodes) (sym node) ∙ (shown_nodes new.part s ∙ ap (λ (c : Core). c.size.nodes) (sym s.leads)) in
    let mine : cell.sender ≡ me_of new.part = next.mine ∙ ap (λ (n : NodeOf). n.cache.me) (sym node) in
    let lane : lane_at_cell old.part cell ≡ lane_place (state_of new.part).size.nodes cell.kind (me_of new.part) cell.receiver =
    (λ i. lane_place (nodes i) cell.kind (mine i) cell.receiver) in
    let core : full.core ≡ state_of new.part = sym full.leads ∙ state in
    let four : length (lane_of (state_of new.part) cell.kind (me_of new.part) cell.receiver) ≡ 4 =
    (λ i. length (lane_at (sym core i) (sym lane i))) ∙ full.four in
    omega arith

pub returns-clause-full : goal.returns-clause-full
returns-clause-full c = grind (arith, full_there)
