use Rattle.std.proofs.Common.{refl}
use Rattle.sci_core.proofs.Basics.Options.{of_some}
use Rattle.sci_station.specs.Ends.{SeesFirst}
use Rattle.sci_station.proofs.StillEnds.{seen_there, still_takes, still_then}
use Rattle.sci_running_tests.proofs.by_hand.receive.Goals as goal

pub see-requires : goal.see-requires
see-requires c = c.requires.other

pub read_packet-requires : goal.read_packet-requires
read_packet-requires c =
    let cell = c.args.cell in
    let found = c.in-Ok-Some in
    let sees = of_some (SeesFirst c.see.new.end.part cell.kind cell.sender) found.field-0 found.first found.field-0-is found.ensures.seen in
    seen_there c.see.new.end.part cell.kind cell.sender found.first cell sees
    (still_takes c.args.end.now c.see.new.end cell c.see.ensures.still c.requires) (refl, refl)

pub returns-in-Ok-clause-still : goal.returns-in-Ok-clause-still
returns-in-Ok-clause-still c = still_then c.args.end.now c.see.new.end c.read_packet.new.end c.see.ensures.still c.read_packet.ensures.still
