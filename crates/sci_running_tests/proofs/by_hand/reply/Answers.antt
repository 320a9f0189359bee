use Rattle.std.proofs.Common.{None, sym, ap, ◌∙◌}
use Rattle.sci_cache.specs.Cache.{letter_of}
use Rattle.sci_core.specs.{declared.lane.LaneKind.TheVariants.{Answers}, Core.{sends}, Node.{NodeOf}}
use Rattle.sci_core.proofs.Step.Applied.{waits_replying}
use Rattle.sci_station.proofs.StationEvents.{reply_target}
use Rattle.sci_running_tests.proofs.by_hand.reply.Goals as goal

pub send-requires-clause-target : goal.send-requires-clause-target
send-requires-clause-target c =
    let waits = ap (λ (m : NodeOf). m.waiting) (sym c.node.ensures.node) ∙ sym c.in-Some.ensures in
    reply_target c.args.end.now.part (letter_of c.in-Some.answer.now) c.node.ensures.shown waits

pub send-requires-clause-sends : goal.send-requires-clause-sends
send-requires-clause-sends c =
    let node = c.args.end.now.part.node in
    let waits = ap (λ (m : NodeOf). m.waiting) (sym c.node.ensures.node) ∙ sym c.in-Some.ensures in
    record { next = record node { waiting = None }; side_is = ap (sends Answers) (waits_replying node (letter_of c.in-Some.answer.now) waits) }
