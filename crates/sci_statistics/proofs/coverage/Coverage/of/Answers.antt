use Rattle.std.proofs.Common.{arith}
use Rattle.sci_statistics.proofs.Covered.{all_counted, none_more, nothing_counted, one_more}
use Rattle.sci_statistics.proofs.coverage.Coverage.of.Goals.{in-Some, in_default}
use Rattle.sci_statistics.proofs.coverage.Coverage.of.Goals as goal

pub loop-event-init : goal.loop-event-init
loop-event-init c = record {
  small = λ t. let none = c.none-found.ensures t in omega (arith, none);
  counted = λ t. nothing_counted t _ _ c.args.events.now _ (c.none-found.ensures t) c.in_ok-machine.ensures.opening;
}

pub loop-event-preserved : goal.loop-event-preserved
loop-event-preserved c = record {
  small = λ t. elim c.match-branch-3.branch [
    | in-Some w ↦ let counted = w.count.ensures t in rw w.found-is (omega (arith, counted))
    | in_default w ↦ rw w.found-is (c.loop-event.invariant.small t)
  ];
  counted = λ t. elim c.match-branch-3.branch [
    | in-Some w ↦ rw w.found-is (one_more t w.in-Some.transition c.loop-event.machine c.transition_of.new.machine c.args.events.now c.loop-event.event-index _
        c.in_ok-transition.field-0 _ _ _ c.loop-event-test.true c.in_ok-transition.ensures.transition c.in_ok-transition.ensures.step w.in-Some.is
        (w.count.ensures t) (c.loop-event.invariant.counted t))
    | in_default w ↦ rw w.found-is (none_more t c.loop-event.machine c.transition_of.new.machine c.args.events.now c.loop-event.event-index _
        c.in_ok-transition.field-0 _ _ c.loop-event-test.true c.in_ok-transition.ensures.transition c.in_ok-transition.ensures.step w.in_default.is
        (c.loop-event.invariant.counted t))
  ];
}

pub returns : goal.returns
returns c = λ t. all_counted t c.loop-event.machine c.args.events.now c.loop-event.event-index _ _ c.loop-event-test.false
    (c.loop-event.invariant.small t) (c.loop-event.invariant.counted t)
