use Rattle.sci_lanes.proofs.CellPlaces.{AreFirst}
use Rattle.sci_lanes.proofs.cell.first_places.Given as goal

abbrev pub invariant-loop-inbox : goal.invariant-loop-inbox
invariant-loop-inbox l = AreFirst l.nodes l.me l.inbox l.places.items
