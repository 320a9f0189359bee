use Rattle.std.proofs.Common.{◌≡◌, ◌↔◌, ◌<◌, length, map, sym, ap, subst, ◌∙◌, arith}
use Rattle.std.specs.Prelude.{All}
use Rattle.sci_words.specs.declared.limits.TheConstants.{MAX_NODES}
use Rattle.sci_history.specs.{declared.order_verdict.{OrderVerdict.{OrderVerdict}, Step.{Step}}, Audit.{entries_of}, Cycle.{IsOrderVerdict, IsOrdered}}
use Rattle.sci_history.specs.{Lawful.{Lawful}, Placed.{log_of}, Sequential.{IsSequentiallyConsistent}}
use Rattle.sci_history.specs.declared.verdict.Verdict.TheVariants as verdicts
use Rattle.sci_history.specs.declared.order_verdict.OrderVerdict.TheVariants as orders
use Rattle.sci_history.specs.declared.entry.Entry.{Entry}
use Rattle.sci_windows.specs.{Order.{step_in}, Relative.{relative_contents, relative_logs}}
use Rattle.sci_windows.proofs.Founds.{cycle_found, named_verdict, nodes_each, nodes_from, nodes_known, order_found, ordered_relative}
use Rattle.sci_windows.proofs.{CyclesBack.{all_known, all_within}, Loops.{audit_within}, Verdicts.{IsWindow, window_verdict}}
use Rattle.sci_windows.proofs.ordering.order_from.Goals.{After-deref-in-Cycle, After-deref-in-Order-2, After-sequential_order}
use Rattle.sci_windows.proofs.ordering.order_from.Goals as goal

pub sequential_order-requires : goal.sequential_order-requires
sequential_order-requires c =
    audit_within c.args.first.now c.args.last.now c.args.logs.now c.in_ok-relative.relative c.deref.result.now c.in_ok-relative.ensures.logs
    (c.deref.ensures ∙ c.in_ok-contents.ensures.contents) c.requires.lines c.requires.within

window : (c : After-sequential_order) → IsWindow c.args.logs.now c.args.first.now c.args.last.now
window c = grind arith

pub returns-in-Fault-clause-found : goal.returns-in-Fault-clause-found
returns-in-Fault-clause-found c =
    let at_fault : IsOrderVerdict c.in_ok-relative.relative c.deref.result.now (orders.Fault c.in-Fault.line c.in-Fault.kind c.in-Fault.at) =
    subst (IsOrderVerdict c.in_ok-relative.relative c.deref.result.now) c.in-Fault.is c.in_ok-line.ensures.verdict in
    window_verdict c.args.logs.now c.args.first.now c.args.last.now (verdicts.Fault c.in-Fault.line c.in-Fault.kind c.in-Fault.at)
    (window (goal.at.returns-in-Fault-clause-found c).After-sequential_order)
    (named_verdict c.args.logs.now c.in_ok-relative.relative c.args.first.now c.args.last.now c.deref.result.now
    (orders.Fault c.in-Fault.line c.in-Fault.kind c.in-Fault.at) c.in_ok-relative.ensures.logs (c.deref.ensures ∙ c.in_ok-contents.ensures.contents) at_fault)

pub returns-in-Fault-clause-order : goal.returns-in-Fault-clause-order
returns-in-Fault-clause-order c =
    let ordered = subst (λ (found : OrderVerdict). IsOrdered found ↔ (Lawful c.in_ok-relative.relative c.deref.result.now
    × IsSequentiallyConsistent c.in_ok-relative.relative c.deref.result.now)) c.in-Fault.is c.in_ok-line.ensures.order in (
      λ none. absurd none,
      λ both. ordered.1 (ordered_relative c.args.logs.now c.in_ok-relative.relative c.args.first.now c.args.last.now c.deref.result.now
          (window (goal.at.returns-in-Fault-clause-order c).After-sequential_order) c.in_ok-relative.ensures.logs
          (c.deref.ensures ∙ c.in_ok-contents.ensures.contents) both),
    )

-- the order that was found, of the relative logs by their names, and its nodes
order_of : (c : After-deref-in-Order-2) → IsOrderVerdict (relative_logs c.args.first.now c.args.logs.now)
    (relative_contents c.args.first.now c.args.last.now) (orders.Order c.in-Order.order)
order_of c = grind (arith, named_verdict)

nodes_in : (c : After-deref-in-Order-2) → c.deref-in-Order-2.result.now ≡ map (λ (e : Entry). e.node) (entries_of c.in-Order.order.items)
nodes_in c = grind (arith, nodes_from)

pub in_turn-requires-clause-known : goal.in_turn-requires-clause-known
in_turn-requires-clause-known c =
    nodes_known c.args.logs.now c.args.first.now c.args.last.now (entries_of c.in-Order.order.items) c.deref-in-Order-2.result.now
    c.in_ok-relative.ensures.sixteen (nodes_in c) (order_of c).1

pub in_turn-requires-clause-each : goal.in_turn-requires-clause-each
in_turn-requires-clause-each c =
    nodes_each c.args.logs.now c.args.first.now c.args.last.now (entries_of c.in-Order.order.items) c.deref-in-Order-2.result.now (nodes_in c) (order_of c).1

pub returns-in-Order-clause-found : goal.returns-in-Order-clause-found
returns-in-Order-clause-found c =
    let here = (goal.at.returns-in-Order-clause-found c).After-deref-in-Order-2 in
    order_found c.args.logs.now c.args.first.now c.args.last.now c.in_ok-made-in-Order.made.items (entries_of c.in-Order.order.items)
    (window (goal.at.returns-in-Order-clause-found c).After-sequential_order) (order_of here).0 (c.in_ok-made-in-Order.ensures.nodes ∙ nodes_in here)
    c.in_ok-made-in-Order.ensures.own (order_of here).1

pub returns-in-Order-clause-order : goal.returns-in-Order-clause-order
returns-in-Order-clause-order c =
    let here = (goal.at.returns-in-Order-clause-order c).After-deref-in-Order-2 in
    let is = order_found c.args.logs.now c.args.first.now c.args.last.now c.in_ok-made-in-Order.made.items (entries_of c.in-Order.order.items)
    (window (goal.at.returns-in-Order-clause-order c).After-sequential_order) (order_of here).0 (c.in_ok-made-in-Order.ensures.nodes ∙ nodes_in here)
    c.in_ok-made-in-Order.ensures.own (order_of here).1 in
    (λ yes_. (is.0, (c.in_ok-made-in-Order.made.items, is.1)), λ both. tt)

-- the cycle that was found
cycle_of : (c : After-deref-in-Cycle) → IsOrderVerdict (relative_logs c.args.first.now c.args.logs.now)
    (relative_contents c.args.first.now c.args.last.now) (orders.Cycle c.in-Cycle.steps)
cycle_of c = grind (arith, named_verdict)

pub steps_in-requires-clause-known : goal.steps_in-requires-clause-known
steps_in-requires-clause-known c =
    subst (All (λ (x : Step). x.entry.node < MAX_NODES)) (sym c.deref-in-Cycle.ensures.value)
    (all_known c.args.first.now c.args.logs.now c.in-Cycle.steps.items c.in_ok-relative.ensures.sixteen (cycle_of c).1.entries)

pub steps_in-requires-clause-within : goal.steps_in-requires-clause-within
steps_in-requires-clause-within c =
    subst (All (λ (x : Step). x.place < length (log_of c.args.logs.now x.entry.node))) (sym c.deref-in-Cycle.ensures.value)
    (all_within c.args.first.now c.args.logs.now c.in-Cycle.steps.items (cycle_of c).1.entries)

pub returns-clause-found : goal.returns-clause-found
returns-clause-found c =
    cycle_found c.args.logs.now c.args.first.now c.args.last.now c.in-Cycle.steps.items c.in_ok-made-in-Cycle.made.items
    (window (goal.at.returns-clause-found c).After-sequential_order)
    (c.in_ok-made-in-Cycle.ensures ∙ ap (map (step_in c.args.logs.now)) c.deref-in-Cycle.ensures.value)
    (cycle_of (goal.at.returns-clause-found c).After-deref-in-Cycle)

pub returns-clause-order : goal.returns-clause-order
returns-clause-order c =
    let ordered = subst (λ (found : OrderVerdict). IsOrdered found ↔ (Lawful c.in_ok-relative.relative c.deref.result.now
    × IsSequentiallyConsistent c.in_ok-relative.relative c.deref.result.now)) c.in-Cycle.is c.in_ok-line.ensures.order in (
      λ none. absurd none,
      λ both. ordered.1 (ordered_relative c.args.logs.now c.in_ok-relative.relative c.args.first.now c.args.last.now c.deref.result.now
          (window (goal.at.returns-clause-order c).After-sequential_order) c.in_ok-relative.ensures.logs
          (c.deref.ensures ∙ c.in_ok-contents.ensures.contents) both),
    )
