use Rattle.std.proofs.Common.{◌≡◌, ◌⊎◌, List, [], sym, ap, subst, ◌∙◌}
use mathlib.Core.Option.{none}
use Rattle.atomic_table.specs.Table.{step}
use Rattle.sci_lanes.specs.{declared.view.Part.{Part}, Ends.{EndOf, IsNextToSend, IsNextToTake, nodes_in, lane_at_cell}}
use Rattle.sci_lanes.specs.{Plays.{Looks, LooksAt}, Telling.{part_of, IsFull, IsShown, state_of}}
use Rattle.sci_lanes.specs.Shown.{IsSeen, informed}
use Rattle.sci_core.specs.Core.{lane_at}
use Rattle.sci_words.specs.declared.event.Event.{Event}
use Rattle.sci_lanes.proofs.Seats.{Asks, look_asks, look_told, part_after, view_after, went_after, is_receiving_here, is_sending_here}
use Rattle.sci_lanes.proofs.seat.NodeSeat.look.Goals as goal

pub load-requires : goal.load-requires
load-requires c =
    let s = c.self.inside.seat in
    let cell = c.args.cell.now in
    let part_is : part_of s.me.0 ≡ c.args.self.now.part = ap (λ (e : EndOf). e.part) c.self.view_is in
    subst (λ t. Asks t.shared.key t.shared.table_id s.table_id s.id s.me c.args.place (λ n. n)
    (Looks (step t.shared.table_id.slots c.args.place 0 0 none) s.me)) (sym c.deref.ensures)
    (look_asks _ _ _ s.id s.me cell c.args.nodes c.args.place c.self.invariant (c.requires.nodes ∙ ap nodes_in (sym part_is))
    (subst (λ (p : Part). IsNextToSend p cell ⊎ IsNextToTake p cell) (sym part_is) c.requires.next) c.requires.place)

told : (c : goal.After-load) → LooksAt (lane_at_cell c.args.self.now.part c.args.cell.now) c.args.cell.now.number c.load.result c.args.self.now.part
    c.load.new.seat.me
told c =
    let s = c.self.inside.seat in
    let cell = c.args.cell.now in
    let part_is : part_of s.me.0 ≡ c.args.self.now.part = ap (λ (e : EndOf). e.part) c.self.view_is in
    subst (λ (p : Part). LooksAt (lane_at_cell p cell) cell.number c.load.result p c.load.new.seat.me) part_is
    (look_told s.me c.load.new.seat.me cell c.args.nodes c.args.place c.load.result c.deref.result.now.shared.table_id.slots
    (subst (λ (p : Part). IsNextToSend p cell ⊎ IsNextToTake p cell) (sym part_is) c.requires.next) c.self.invariant.shown
    (c.requires.nodes ∙ ap nodes_in (sym part_is)) c.requires.place c.load.ensures.2)

pub returns-clause-part : goal.returns-clause-part
returns-clause-part c =
    view_after c.self.inside.seat.table_id c.load.new.seat.table_id c.self.inside.seat.me c.load.new.seat.me c.args.self.now (IsSeen c.args.self.now.part) _
    c.self.view_is c.load.ensures.0 (told c).tells

pub returns-clause-full : goal.returns-clause-full
returns-clause-full c next some =
    let part_is : part_of c.self.inside.seat.me.0 ≡ c.args.self.now.part = ap (λ (e : EndOf). e.part) c.self.view_is in
    subst (λ (es : List Event). IsFull (informed es c.args.self.now.part) (lane_at_cell c.args.self.now.part c.args.cell.now))
    (sym (ap (λ (p : Part). p.schedule) (part_after (IsSeen c.args.self.now.part) c.args.self.now.part _ c.load.new.seat.me (told c).tells)))
    ((told c).full (is_sending_here c.args.self.now.part c.args.cell.now (subst IsShown part_is c.self.invariant.shown) next) some)

pub returns-clause-seen : goal.returns-clause-seen
returns-clause-seen c = went_after (IsSeen c.args.self.now.part) c.args.self.now.part _ c.load.new.seat.me (told c).tells

pub returns-clause-empty : goal.returns-clause-empty
returns-clause-empty c next zero_ =
    let part_is : part_of c.self.inside.seat.me.0 ≡ c.args.self.now.part = ap (λ (e : EndOf). e.part) c.self.view_is in
    subst (λ (es : List Event). lane_at (state_of (informed es c.args.self.now.part)) (lane_at_cell c.args.self.now.part c.args.cell.now) ≡ [])
    (sym (ap (λ (p : Part). p.schedule) (part_after (IsSeen c.args.self.now.part) c.args.self.now.part _ c.load.new.seat.me (told c).tells)))
    ((told c).empty (is_receiving_here c.args.self.now.part c.args.cell.now (subst IsShown part_is c.self.invariant.shown) next) zero_)
