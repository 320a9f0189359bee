use Rattle.std.proofs.Common.{sym, ap, subst}
use Rattle.sci_lanes.specs.Ends.{EndOf, MayFill}
use Rattle.sci_lanes.proofs.{Seats.{sends_in}, Inside.{filled_inside}}
use Rattle.sci_lanes.proofs.end.LaneEnd.fill_at.Goals as goal

pub invariant_of-self : goal.invariant_of-self
invariant_of-self c =
    let s = c.self.inside in
    let f = c.self.invariant.0 in
    let may = subst (λ (e : EndOf). MayFill e.part c.args.cell c.args.index) (sym c.self.view_is) c.requires.may in (
      filled_inside s.seat.part _ _ _ _ _ f c.args.cell (sends_in s.seat.part c.args.cell f.shown may.next) c.fill.new.self.part c.args.index c.args.word
          (ap (λ (e : EndOf). e.part) c.fill.ensures.part) c.fill.ensures.shown,
      c.self.invariant.1,
    )
