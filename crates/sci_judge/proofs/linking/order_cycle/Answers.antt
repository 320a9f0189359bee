use Rattle.std.proofs.Common.{sym}
use Rattle.sci_judge.proofs.Cycles.{rules_out_order}
use Rattle.sci_judge.proofs.linking.order_cycle.Goals as goal

pub returns-then-is_cycle-clause-none : goal.returns-then-is_cycle-clause-none
returns-then-is_cycle-clause-none c =
    rules_out_order c.args.timed c.args.trace.now c.in-Ok.links.items c.requires
    (rw (sym c.deref-4.ensures.value) (c.in_ok-is_cycle.ensures c.if-is_cycle.true))
