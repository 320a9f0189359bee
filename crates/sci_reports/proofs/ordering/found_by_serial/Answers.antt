-- The sorted logs are lawful too, and are searched as they stand.
use Rattle.std.proofs.Common.{◌≡◌, ◌↔◌, length, sym, ◌∙◌, subst}
use Rattle.sci_history.specs.{Audit.{AreWithin}, Cycle.{IsOrdered}}
use Rattle.sci_command.specs.declared.outcome.Outcome.TheVariants.{Done, Refused}
use Rattle.sci_reports.specs.OrderAnswer.{IsFound, IsOrderText}
use Rattle.sci_reports.proofs.Orders.{if_ok_three, serial_found}
use Rattle.sci_reports.proofs.ordering.found_by_serial.Goals as goal

pub sequential_order-requires : goal.sequential_order-requires
sequential_order-requires c =
    subst (AreWithin (length c.args.last.now)) (sym c.in_ok-sorted.ensures)
    (c.serial_order_is_lawful.ensures.within (length c.args.last.now) c.args.logs.now c.requires.within)

pub returns : goal.returns
returns c =
    let logs = c.args.logs.now in
    let last = c.args.last.now in
    let verdict = c.in_ok-verdict.verdict in
    let still = c.serial_order_is_lawful.ensures.lawful logs last (sym c.nodes-nodes.ensures.nodes ∙ c.nodes-nodes.ensures.sixteen) c.requires.lawful in
    if_ok_three
    (λ x. IsOrderText c.args.search.request c.args.search.before logs verdict x.text.items) (λ x. x.outcome ≡ Refused → ⊥)
    (λ x. (x.outcome ≡ Done) ↔ IsOrdered verdict) (λ x. IsFound c.args.search.request c.args.search.before logs last x.text.items x.outcome) c.told.result
    (λ x text judged ends. serial_found c.args.search.request c.args.search.before logs c.in_ok-sorted.sorted last verdict x.text.items x.outcome
    c.requires.keeps c.in_ok-sorted.ensures c.requires.lawful still c.nodes-nodes-2.ensures.own
    (sym c.nodes-nodes-2.ensures.nodes ∙ c.nodes-nodes-2.ensures.sixteen) c.in_ok-verdict.ensures.verdict c.in_ok-verdict.ensures.order text judged ends)
    c.told.ensures.text c.told.ensures.judged c.told.ensures.ends
