use Rattle.sci_station.proofs.StationEvents.{may_accept}
use Rattle.sci_running_tests.proofs.by_hand.accept.Goals as goal

pub free-requires-clause-may : goal.free-requires-clause-may
free-requires-clause-may c =
    let cell = c.next_to_take-cell in
    may_accept c.receive.new.end.part cell.result c.in-Some.answer c.args.from c.me.result c.in-Some.ensures.read cell.ensures.cell.0 cell.ensures.cell.1
    c.me.ensures
