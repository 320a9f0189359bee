use Rattle.std.proofs.Common.{List, map, sym, ap, subst, ◌∙◌}
use Rattle.std.proofs.lemmas.Simd.{map-map}
use denote.Ref.{Bor}
use Rattle.sci_words.specs.declared.stamped.Stamped.{Stamped}
use Rattle.sci_history.specs.{declared.entry.Entry.{Entry}, Audit.{entries_of}, Cycle.{IsOrderVerdict}, Sequential.{IsSequentialOrder}}
use Rattle.sci_history.specs.declared.order_verdict.OrderVerdict.TheVariants as verdicts
use Rattle.sci_c_values.specs.Entry.{entry_struct}
use Rattle.sci_c.specs.Order.{ref_struct}
use Rattle.sci_c.proofs.{Begun.{lawful_zeros, order_zeros}, OrderFaults.{faulty_for}}
use Rattle.sci_c.proofs.ordering.found_from_zeros.Goals as goal

pub returns-in-Fault-clause-found : goal.returns-in-Fault-clause-found
returns-in-Fault-clause-found c = λ lawful.
    faulty_for c.args.journal.now.logs c.logs-logs.result.now c.args.journal.now.last c.last.result.now c.in_ok-sequential_order.field-0 _ _ _
    c.logs-logs.ensures.logs c.last.ensures c.in-Fault.is c.nodes-sixteen.ensures.own
    (sym c.nodes-sixteen.ensures.nodes ∙ c.nodes-sixteen.ensures.sixteen) c.in_ok-sequential_order.ensures.verdict
    (lawful_zeros c.args.journal.now.first c.args.journal.now.logs c.args.journal.now.last c.requires lawful)

pub returns-in_ok-made-in-Order-clause-found : goal.returns-in_ok-made-in-Order-clause-found
returns-in_ok-made-in-Order-clause-found c =
    let order = c.in-Order.order in
    let found : IsOrderVerdict c.logs-logs.result.now c.last.result.now (verdicts.Order order) =
    subst (IsOrderVerdict c.logs-logs.result.now c.last.result.now) c.in-Order.is c.in_ok-sequential_order.ensures.verdict in
    let is : IsSequentialOrder c.args.journal.now.logs c.args.journal.now.last (entries_of order.items) =
    subst (λ (ls : List (List Entry)). IsSequentialOrder ls c.args.journal.now.last (entries_of order.items)) c.logs-logs.ensures.logs
    (subst (λ (l : List Stamped). IsSequentialOrder c.logs-logs.result.now l (entries_of order.items)) c.last.ensures found.1) in
    record {
      order = entries_of order.items;
      is_order = order_zeros c.args.journal.now.first c.args.journal.now.logs c.args.journal.now.last (entries_of order.items) c.requires is;
      are = c.in_ok-made-in-Order.ensures ∙ ap (map ref_struct) c.deref.ensures.value ∙ sym (map-map entry_struct (λ (r : Bor Entry). r.now) order.items);
    }
