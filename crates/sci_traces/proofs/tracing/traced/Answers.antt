use Rattle.std.proofs.Common.{arith, rules, ◌<◌, length, sym}
use Rattle.sci_traces.proofs.{Traced.{traces_more, traces_last}, tracing.traced.Goals.{In-Ok}}
use Rattle.sci_traces.proofs.tracing.traced.Goals as goal

-- the event is one of the schedule's
within : (c : In-Ok) → c.loop-event.event-index < length c.events-event-items.result.now
within c = let test = c.loop-event-test.true in omega (arith, test)

pub loop-event-preserved : goal.loop-event-preserved
loop-event-preserved c = record {
  traced = rw (c.in-Ok.ensures.text, c.in-Ok.ensures.step)
      (traces_more c.args.request c.in-Ok.enabled _ _ c.loop-event.text.items c.loop-event.machine c.loop-event.number _ _ _
      (within (goal.at.loop-event-preserved c).In-Ok) (search rules) c.in-Ok.ensures.enabled (sym c.if-ends_at.ensures) c.loop-event.invariant.traced);
  counted = omega (arith, c.loop-event.invariant.counted);
}

pub returns-then-ends_at-clause-trace : goal.returns-then-ends_at-clause-trace
returns-then-ends_at-clause-trace c =
    let last = traces_last c.args.request c.in-Ok.enabled _ _ c.loop-event.text.items c.loop-event.machine c.loop-event.number _ _ _
    (within (goal.at.returns-then-ends_at-clause-trace c).In-Ok) (search rules) c.in-Ok.ensures.enabled (sym c.if-ends_at.ensures)
    c.loop-event.invariant.traced in
    record { written = rw c.in-Ok.ensures.text last.0; ends = last.1 }
