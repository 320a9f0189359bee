-- One event more.
use Rattle.std.proofs.Common.{◌≡◌, ◌<◌, ◌+◌, ◌++◌, length, take, get_or, ap, sym, ◌∙◌, arith}
use Rattle.sci_words.specs.declared.{event.Event.{Event, TheVariants.{Issue}}, operation.Act.TheVariants.{Load}}
use Rattle.sci_core.specs.{Core.{Core, run_from}, Dead.{dead_at, dead_events, obstacle_if_dead, summary}}
use Rattle.sci_core.proofs.Summaries.{dead_events_of_more, ran_on}
use Rattle.sci_core.proofs.dead.DeadEvents.among.Goals as goal

pub loop-event-preserved : goal.loop-event-preserved
loop-event-preserved c =
    let was = c.loop-event.invariant in
    let events = c.args.events.now in
    let i = c.loop-event.event-index in
    let first : Event = Issue 0 (record { line = 0; word = 0; act = Load }) in
    let begun = c.args.machine.now in
    let below : i < length events = omega (arith, c.loop-event-test.true) in
    let counted : c.loop-event.place + 1 ≡ i + 1 = omega arith in
    let obstacle : c.in_ok-step.field-0 ≡ obstacle_if_dead c.loop-event.machine (get_or events i first) = c.in_ok-step.ensures.obstacle in
    let known = dead_events begun 0 (take i events) in record {
      led = ran_on begun events i first below c.loop-event.machine c.step.new.self was.led c.in_ok-step.ensures.ok;
      dead = c.with-dead.ensures.summary known was.dead
          ∙ ap (λ o. summary (known ++ dead_at c.loop-event.place o)) (obstacle ∙ ap (λ (m : Core). obstacle_if_dead m (get_or events i first)) was.led)
          ∙ ap (λ k. summary (known ++ dead_at k (obstacle_if_dead (run_from begun (take i events)) (get_or events i first)))) was.counted
          ∙ ap summary (sym (dead_events_of_more begun events i first below));
      counted = counted;
      few = c.with-dead.ensures.few;
      coherent = c.step.ensures.coherent;
    }
