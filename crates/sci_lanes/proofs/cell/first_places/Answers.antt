use Rattle.std.proofs.Common.{refl}
use Rattle.sci_lanes.proofs.CellPlaces.{one_more}
use Rattle.sci_lanes.proofs.cell.first_places.Goals as goal

pub loop-inbox-preserved : goal.loop-inbox-preserved
loop-inbox-preserved c = one_more c.args.nodes c.args.me c.loop-inbox.inbox _ c.loop-inbox.places.items c.push.new.self.items c.loop-inbox.invariant
    (rw (c.from.ensures, c.from-in-loop-inbox.ensures, c.from-in-loop-inbox-2.ensures) refl) c.in_ok-push.ensures.items
