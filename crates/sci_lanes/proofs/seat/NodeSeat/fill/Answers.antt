use Rattle.std.proofs.Common.{refl, sym, subst}
use mathlib.Core.Option.{none}
use Rattle.atomic_table.specs.Table.{step}
use Rattle.sci_lanes.specs.{Ends.{nodes_in}, Knowing.{filled}, Plays.{Fills}, Shown.{IsSeen}}
use Rattle.sci_lanes.proofs.Seats.{Asks, fill_asks, told_after, went_now}
use Rattle.sci_lanes.proofs.seat.NodeSeat.fill.Goals as goal

pub store-requires : goal.store-requires
store-requires c =
    let s = c.self.inside.seat in
    subst (λ t. Asks t.shared.key t.shared.table_id s.table_id s.id s.me c.args.place (λ n. c.args.word)
    (λ n. Fills (step t.shared.table_id.slots c.args.place c.args.word 0 none) s.me c.args.word)) (sym c.deref.ensures)
    (fill_asks _ _ _ s.id s.me c.args.cell.now (nodes_in c.args.self.now.part) c.args.place c.self.invariant c.args.self.now c.self.view_is refl c.args.index
    c.args.word c.requires.may c.requires.place)

pub returns-clause-part : goal.returns-clause-part
returns-clause-part c =
    let s = c.self.inside.seat in
    told_after _ _ _ s.id s.me c.args.cell.now (nodes_in c.args.self.now.part) c.args.place c.self.invariant c.args.self.now c.self.view_is refl
    c.store.new.seat.table_id c.store.new.seat.me c.args.index (λ p. IsSeen p) (λ l i p. filled l i c.args.word p) c.requires.may.within c.requires.place
    c.store.ensures.0 c.store.ensures.2

pub returns-clause-seen : goal.returns-clause-seen
returns-clause-seen c = went_now (λ p. IsSeen p) _ c.args.self.now _ c.store.new.seat.me c.self.view_is c.store.ensures.2
