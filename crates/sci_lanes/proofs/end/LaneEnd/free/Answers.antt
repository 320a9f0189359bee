use Rattle.std.proofs.Common.{◌≡◌, Some, refl, sym, ap, subst, ◌∙◌, arith}
use Rattle.std.specs.Prelude.{IsSome}
use Rattle.sci_packets.specs.{declared.packet.Packet.{Packet}, Spelling.{SpellsInWords}}
use Rattle.sci_cache.specs.Cache.{letter_of}
use Rattle.sci_core.specs.{Node.{NodeOf}, Core.{side}}
use Rattle.sci_lanes.specs.{Ends.{EndOf, MayFree, MayBeGiven, taken_by, lane_at_cell}, Shown.{inbound_at}}
use Rattle.sci_lanes.proofs.{Seats.{takes_in}, Inside.{freed_inside}, CellPlaces.{places_freed}}
use Rattle.sci_lanes.proofs.{Calls.{takes_some, given, freeing, one_spelled}, end.LaneEnd.free.Goals.{After-self}}
use Rattle.sci_lanes.proofs.end.LaneEnd.free.Goals as goal

-- the packet may be taken, as the seat knows the end
may : (c : After-self) → MayFree c.self.inside.seat.part c.args.cell c.args.event.now
may c = subst (λ (end : EndOf). MayFree end.part c.args.cell c.args.event.now) (sym c.self.view_is) c.requires.may

-- and it is the one that is given
same : (c : After-self) → c.args.packet.now ≡ (may c).packet
same c =
    one_spelled c.args.packet.now (may c).packet _
    (subst (λ (end : EndOf). SpellsInWords c.args.packet.now (inbound_at end.part (lane_at_cell end.part c.args.cell)).found) (sym c.self.view_is)
    c.requires.spelled) (may c).spelled

pub make_taking-requires-clause-takable : goal.make_taking-requires-clause-takable
make_taking-requires-clause-takable c =
    let s = c.self.inside in
    let e = c.args.event.now in
    let start = (goal.at.make_taking-requires-clause-takable c).After-self in
    subst (λ (p : Packet). MayBeGiven e s.node (letter_of p)) (sym (same start))
    (subst (λ (node : NodeOf). MayBeGiven e node (letter_of (may start).packet)) (sym c.self.invariant.0.node_is)
    (given s.seat.part c.args.cell e c.self.invariant.0.shown (may start)))

pub make_taking-requires-clause-takes : goal.make_taking-requires-clause-takes
make_taking-requires-clause-takes c =
    let part = c.self.inside.seat.part in
    let e = c.args.event.now in
    let start = (goal.at.make_taking-requires-clause-takes c).After-self in
    let takes = ap (λ (node : NodeOf). taken_by (side node e) (letter_of c.args.packet.now)) c.self.invariant.0.node_is
    ∙ (ap (λ (p : Packet). taken_by (side part.node e) (letter_of p)) (same start) ∙ takes_some part c.args.cell e (may start)) in
    subst IsSome (sym takes) refl

pub free-requires-clause-taking : goal.free-requires-clause-taking
free-requires-clause-taking c =
    let e = c.args.event.now in
    let packet = c.args.packet.now in
    let start = (goal.at.free-requires-clause-taking c).After-self in
    freeing c.self.inside.seat.part c.args.cell e packet c.make_taking.new.node (may start) (same start)
    (subst (λ (node : NodeOf). taken_by (side node e) (letter_of packet) ≡ Some c.make_taking.new.node) c.self.invariant.0.node_is c.make_taking.ensures)

pub invariant_of-self : goal.invariant_of-self
invariant_of-self c =
    let s = c.self.inside in
    let f = c.self.invariant.0 in
    let may = may (goal.at.invariant_of-self c).After-self in
    rw c.inbox-place.ensures.place (
      freed_inside s.seat.part _ _ _ _ _ f c.args.cell (takes_in s.seat.part c.args.cell f.shown may.next) c.free.new.self.part c.make_taking.new.node
          c.make_taking.new.node _ may.next.mine may.next.next refl (ap (λ (end : EndOf). end.part) c.free.ensures.part) c.free.ensures.shown refl
          c.free.ensures.same,
      places_freed s.seat.part _ _ _ _ _ _ f c.self.invariant.1 c.args.cell may.next _ _ c.place.ensures.place,
    )

pub returns-clause-taken : goal.returns-clause-taken
returns-clause-taken c = grind arith
