use Rattle.std.proofs.Common.{ap, sym, ◌∙◌}
use Rattle.sci_cache.specs.Cache.{letter_of}
use Rattle.sci_core.specs.{declared.lane.LaneKind.TheVariants.{Requests}, Core.{sends}, Node.{NodeOf, node_asking}}
use Rattle.sci_station.proofs.StationEvents.{ask_target}
use Rattle.sci_running_tests.proofs.by_hand.ask.Goals as goal

pub send-requires-clause-target : goal.send-requires-clause-target
send-requires-clause-target c =
    let asked = c.in-Some.ensures.asked in
    let asks = ap (λ (m : NodeOf). node_asking m c.args.line c.args.kind) (sym c.node.ensures.node) ∙ asked.1 in
    ask_target c.args.end.now.part c.args.line c.args.kind (asked.0, letter_of c.in-Some.request) c.node.ensures.shown asks

pub send-requires-clause-sends : goal.send-requires-clause-sends
send-requires-clause-sends c =
    let asked = c.in-Some.ensures.asked in
    let asks = ap (λ (m : NodeOf). node_asking m c.args.line c.args.kind) (sym c.node.ensures.node) ∙ asked.1 in
    record { next = asked.0; side_is = ap (sends Requests) asks }
