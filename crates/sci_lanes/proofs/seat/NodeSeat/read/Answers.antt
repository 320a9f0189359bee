use Rattle.std.proofs.Common.{refl, sym, subst}
use mathlib.Core.Option.{none}
use Rattle.atomic_table.specs.Table.{step}
use Rattle.sci_lanes.specs.{Ends.{nodes_in}, Knowing.{read}, Plays.{Reads}, Shown.{IsSeen}}
use Rattle.sci_lanes.proofs.Seats.{Asks, read_asks, told_after, went_now}
use Rattle.sci_lanes.proofs.seat.NodeSeat.read.Goals as goal

pub load-requires : goal.load-requires
load-requires c =
    let s = c.self.inside.seat in
    subst (λ t. Asks t.shared.key t.shared.table_id s.table_id s.id s.me c.args.place (λ n. n)
    (Reads (step t.shared.table_id.slots c.args.place 0 0 none) s.me)) (sym c.deref.ensures)
    (read_asks _ _ _ s.id s.me c.args.cell.now (nodes_in c.args.self.now.part) c.args.place c.self.invariant c.args.self.now c.self.view_is refl c.args.index
    c.requires.may c.requires.place)

pub returns-clause-part : goal.returns-clause-part
returns-clause-part c =
    let s = c.self.inside.seat in
    told_after _ _ _ s.id s.me c.args.cell.now (nodes_in c.args.self.now.part) c.args.place c.self.invariant c.args.self.now c.self.view_is refl
    c.load.new.seat.table_id c.load.new.seat.me c.args.index (λ p. IsSeen p) (λ l i p. read l i c.load.result p) c.requires.may.within c.requires.place
    c.load.ensures.0 c.load.ensures.2

pub returns-clause-seen : goal.returns-clause-seen
returns-clause-seen c = went_now (λ p. IsSeen p) _ c.args.self.now _ c.load.new.seat.me c.self.view_is c.load.ensures.2
