use Rattle.std.proofs.Common.{ℕ, sym, subst, arith}
use mathlib.Core.Option.{none}
use Rattle.atomic_table.specs.Table.{step}
use Rattle.sci_lanes.specs.{Knowing.{freed}, Plays.{Frees, lane_in}, Telling.{part_of, IsTaken}}
use Rattle.sci_lanes.proofs.Seats.{Asks, free_asks, lane_told, told_after, went_now}
use Rattle.sci_lanes.proofs.seat.NodeSeat.free.Goals as goal

pub store-requires : goal.store-requires
store-requires g c =
    let s = c.self.inside.seat in
    subst (λ t. Asks t.shared.key t.shared.table_id s.table_id s.id s.me c.place-place.result (λ n. 0)
    (λ n. Frees g.B.Becomes.event g.B.Becomes.next (step t.shared.table_id.slots c.place-place.result 0 0 none) s.me 0)) (sym c.deref.ensures)
    (free_asks _ _ _ s.id s.me c.args.cell.now c.args.nodes c.place-place.result c.self.invariant c.args.self.now c.self.view_is c.requires.nodes
    g.B.Becomes.event g.B.Becomes.next c.requires.next c.requires.taking c.place-place.ensures.place)

pub returns-clause-part : goal.returns-clause-part
returns-clause-part g c =
    let s = c.self.inside.seat in
    told_after _ _ _ s.id s.me c.args.cell.now c.args.nodes c.place-place.result c.self.invariant c.args.self.now c.self.view_is c.requires.nodes
    c.store.new.seat.table_id c.store.new.seat.me 0 (λ p. IsTaken p (lane_in c.place-place.result) g.B.Becomes.event) (λ l i p. freed l g.B.Becomes.next p)
    (omega arith) c.place-place.ensures.place c.store.ensures.0 c.store.ensures.2

pub returns-clause-taken : goal.returns-clause-taken
returns-clause-taken g c =
    let s = c.self.inside.seat in
    let later = (part_of c.store.new.seat.me.0).schedule in
    let lane = lane_told _ _ _ s.id s.me c.args.cell.now c.args.nodes c.place-place.result c.self.invariant c.args.self.now c.self.view_is c.requires.nodes 0
    (omega arith) c.place-place.ensures.place in
    subst (λ (l : ℕ). IsTaken c.args.self.now.part l g.B.Becomes.event later) lane
    (went_now (λ p. IsTaken p (lane_in c.place-place.result) g.B.Becomes.event) _ c.args.self.now _ c.store.new.seat.me c.self.view_is c.store.ensures.2)
