-- Drained, emptied, and then one operation after another.
use Rattle.std.proofs.Common.{◌+◌, ◌<◌, refl, arith}
use Rattle.sci_core.specs.Settling.{pending_count, settles}
use Rattle.sci_core.proofs.Settling.EmptyRuns.{refused_after}
use Rattle.sci_core.proofs.Settling.PendingRuns.{exchanges_settle_on, few_worked, moves_settle, moves_settle_on, settled_so, within_so}
use Rattle.sci_core.proofs.Settling.PendingRuns.{worked_first, worked_more}
use Rattle.sci_core.proofs.ReachedLaws.{reached_coherent}
use Rattle.sci_core.proofs.machine.Machine.settle.Goals as goal

pub returns-in_err-drained-clause-refused : goal.returns-in_err-drained-clause-refused
returns-in_err-drained-clause-refused c =
    λ _. moves_settle_on c.args.self.now c.drain.new.self (c.in_err-drained.ensures.refused refl)

pub returns-in_err-emptied-clause-refused : goal.returns-in_err-emptied-clause-refused
returns-in_err-emptied-clause-refused c =
    λ _. refused_after settles c.args.self.now c.drain.new.self c.empty_lines.new.self c.in_ok-drained.drained
    (moves_settle c.args.self.now c.drain.new.self c.in_ok-drained.drained c.in_ok-drained.ensures.made)
    (exchanges_settle_on c.drain.new.self c.empty_lines.new.self (c.in_err-emptied.ensures.refused refl))

pub overflow_add-count : goal.overflow_add-count
overflow_add-count c =
    let few = few_worked c.args.self.now c.empty_lines.new.self (c.in_ok-drained.drained + c.in_ok-emptied.emptied) c.extent-extent.ensures.reached
    (worked_first c.args.self.now c.drain.new.self c.empty_lines.new.self c.in_ok-drained.drained c.in_ok-emptied.emptied c.extent-extent.ensures.reached
    c.drain.ensures.coherent.reached c.in_ok-drained.ensures.made c.in_ok-drained.ensures.weight c.in_ok-emptied.ensures.made c.in_ok-emptied.ensures.few
    c.in_ok-emptied.ensures.kept c.in_ok-emptied.ensures.drained c.in_ok-emptied.ensures.empty) in omega arith

pub operations-init : goal.operations-init
operations-init c =
    worked_first c.args.self.now c.drain.new.self c.empty_lines.new.self c.in_ok-drained.drained c.in_ok-emptied.emptied c.extent-extent.ensures.reached
    c.drain.ensures.coherent.reached c.in_ok-drained.ensures.made c.in_ok-drained.ensures.weight c.in_ok-emptied.ensures.made c.in_ok-emptied.ensures.few
    c.in_ok-emptied.ensures.kept c.in_ok-emptied.ensures.drained c.in_ok-emptied.ensures.empty

pub returns-in_err-count-clause-refused : goal.returns-in_err-count-clause-refused
returns-in_err-count-clause-refused c =
    λ _. refused_after settles c.args.self.now c.operations.self c.perform_pending.new.self c.operations.count c.operations.invariant.leads
    (c.in_err-count.ensures.refused refl)

pub overflow_add-count-in-Some : goal.overflow_add-count-in-Some
overflow_add-count-in-Some c =
    let few = few_worked c.args.self.now c.perform_pending.new.self (c.operations.count + c.in_ok-count.field-0) c.extent-extent.ensures.reached
    (worked_more c.args.self.now c.operations.self c.perform_pending.new.self c.operations.count c.in_ok-count.field-0 c.operations.invariant
    c.in_ok-count.ensures.made c.in_ok-count.ensures.few c.in_ok-count.ensures.one c.in_ok-count.ensures.drained c.in_ok-count.ensures.empty) in omega arith

pub operations-preserved : goal.operations-preserved
operations-preserved c =
    worked_more c.args.self.now c.operations.self c.perform_pending.new.self c.operations.count c.in_ok-count.field-0 c.operations.invariant
    c.in_ok-count.ensures.made c.in_ok-count.ensures.few c.in_ok-count.ensures.one c.in_ok-count.ensures.drained c.in_ok-count.ensures.empty

pub operations-smaller : goal.operations-smaller
operations-smaller c =
    let one = c.in_ok-count.ensures.one in let less : pending_count c.perform_pending.new.self < pending_count c.operations.self = omega arith in less

pub returns : goal.returns
returns c = record {
  settled = settled_so c.operations.self c.next_pending.ensures.reached c.operations.invariant.drained c.operations.invariant.out
      (c.in_default.ensures.none refl);
  made = c.operations.invariant.leads;
  within = within_so c.args.self.now c.operations.self c.operations.count c.operations.invariant;
  refused = λ e. cc;
  coherent = reached_coherent c.operations.self c.next_pending.ensures.reached;
}
