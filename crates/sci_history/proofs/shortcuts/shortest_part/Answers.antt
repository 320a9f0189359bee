use Rattle.sci_history.proofs.Shortening.{free_further, some_part}
use Rattle.sci_history.proofs.shortcuts.shortest_part.Goals as goal

pub loop-span-preserved : goal.loop-span-preserved
loop-span-preserved c = free_further c.args.steps.now c.loop-span.span c.loop-first.first c.loop-first.invariant.nearer c.loop-first-test.false
    c.loop-first.invariant.here

pub unreachable-requires : goal.unreachable-requires
unreachable-requires c = some_part c.args.steps.now c.loop-span.span c.loop-span.auto.span c.loop-span-test.false c.requires c.loop-span.invariant
