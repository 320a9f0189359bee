use Rattle.std.proofs.Common.{sym, ap, subst}
use Rattle.sci_lanes.specs.Ends.{EndOf, MayRead}
use Rattle.sci_lanes.proofs.{Seats.{takes_in}, Inside.{read_inside}}
use Rattle.sci_lanes.proofs.end.LaneEnd.read_at.Goals as goal

pub invariant_of-self : goal.invariant_of-self
invariant_of-self c =
    let s = c.self.inside in
    let f = c.self.invariant.0 in
    let may = subst (λ (e : EndOf). MayRead e.part c.args.cell c.args.index) (sym c.self.view_is) c.requires.may in (
      read_inside s.seat.part _ _ _ _ _ f c.args.cell (takes_in s.seat.part c.args.cell f.shown may.next) c.read.new.self.part c.args.index c.read.result
          (ap (λ (e : EndOf). e.part) c.read.ensures.part) c.read.ensures.shown,
      c.self.invariant.1,
    )
