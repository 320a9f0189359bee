use Rattle.std.proofs.Common.{arith, ◌<◌, length}
use Rattle.sci_words.specs.declared.{event.Event.{Event, TheVariants.{Issue}}, operation.Act.TheVariants.{Load}}
use Rattle.sci_command.specs.Beginning.{before}
use Rattle.sci_traces.specs.PacketsAnswer.{letters_sent}
use Rattle.sci_traces.proofs.Sent.{sends_more}
use Rattle.sci_traces.proofs.sending.packets_of.Goals as goal

pub loop-event-preserved : goal.loop-event-preserved
loop-event-preserved c =
    let events = c.events-event-items.result.now in
    let k = c.loop-event.event-index in
    let first : Event = Issue 0 (record { line = 0; word = 0; act = Load }) in
    let all = letters_sent (before c.args.schedule.now) c.args.schedule.now.events in
    let test = c.loop-event-test.true in
    let within : k < length events = omega (arith, test) in
    rw (c.in_ok-push_sent.ensures, c.in-Ok.ensures.new)
    (sends_more all c.loop-event.machine events k first c.loop-event.bytes.items c.in-Ok.sent within c.in-Ok.ensures.sent c.loop-event.invariant)
