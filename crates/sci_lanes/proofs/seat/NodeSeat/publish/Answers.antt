use Rattle.std.proofs.Common.{sym, subst, arith}
use mathlib.Core.Option.{none}
use Rattle.atomic_table.specs.Table.{step}
use Rattle.sci_lanes.specs.{Knowing.{published}, Plays.{Publishes}, Telling.{IsMade}}
use Rattle.sci_lanes.proofs.Seats.{Asks, publish_asks, told_after, went_now}
use Rattle.sci_lanes.proofs.seat.NodeSeat.publish.Goals as goal

pub store-requires : goal.store-requires
store-requires g c =
    let s = c.self.inside.seat in
    subst (λ t. Asks t.shared.key t.shared.table_id s.table_id s.id s.me c.place-place.result (λ n. c.args.first)
    (λ n. Publishes g.B.Becomes.event g.B.Becomes.next (step t.shared.table_id.slots c.place-place.result c.args.first 0 none) s.me c.args.first))
    (sym c.deref.ensures)
    (publish_asks _ _ _ s.id s.me c.args.cell.now c.args.nodes c.place-place.result c.self.invariant c.args.self.now c.self.view_is c.requires.nodes
    c.args.first g.B.Becomes.event g.B.Becomes.next c.requires.next c.requires.sending c.place-place.ensures.place)

pub returns-clause-part : goal.returns-clause-part
returns-clause-part g c =
    let s = c.self.inside.seat in
    told_after _ _ _ s.id s.me c.args.cell.now c.args.nodes c.place-place.result c.self.invariant c.args.self.now c.self.view_is c.requires.nodes
    c.store.new.seat.table_id c.store.new.seat.me 0 (λ p. IsMade p g.B.Becomes.event) (λ l i p. published l g.B.Becomes.next p) (omega arith)
    c.place-place.ensures.place c.store.ensures.0 c.store.ensures.2

pub returns-clause-made : goal.returns-clause-made
returns-clause-made g c =
    went_now (λ p. IsMade p g.B.Becomes.event) _ c.args.self.now _ c.store.new.seat.me c.self.view_is c.store.ensures.2
