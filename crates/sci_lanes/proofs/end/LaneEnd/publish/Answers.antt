use Rattle.std.proofs.Common.{refl, sym, ap, subst, arith}
use Rattle.sci_lanes.specs.{Ends.{EndOf, MayPublish}}
use Rattle.sci_lanes.proofs.{Seats.{sends_in}, Inside.{published_inside}, Calls.{publishing}}
use Rattle.sci_lanes.proofs.end.LaneEnd.publish.Goals as goal

pub make_sending-requires : goal.make_sending-requires
make_sending-requires c = grind arith

pub publish-requires-clause-sending : goal.publish-requires-clause-sending
publish-requires-clause-sending c = grind (arith, publishing)

pub invariant_of-self : goal.invariant_of-self
invariant_of-self c =
    let s = c.self.inside in
    let f = c.self.invariant.0 in
    let e = c.args.event.now in
    let may = subst (λ (end : EndOf). MayPublish end.part c.args.cell c.args.first e) (sym c.self.view_is) c.requires in
    rw c.lane-lane.ensures (
      published_inside s.seat.part _ _ _ _ _ f c.args.cell (sends_in s.seat.part c.args.cell f.shown may.next) c.publish.new.self.part c.make_sending.new.node
          c.make_sending.new.node _ may.next.next refl (ap (λ (end : EndOf). end.part) c.publish.ensures.part) c.publish.ensures.shown refl
          c.publish.ensures.same,
      c.self.invariant.1,
    )
