-- The logs are searched as they are.
use Rattle.std.proofs.Common.{◌≡◌, ◌↔◌}
use Rattle.sci_history.specs.Cycle.{IsOrdered}
use Rattle.sci_command.specs.declared.outcome.Outcome.TheVariants.{Done, Refused}
use Rattle.sci_reports.specs.OrderAnswer.{IsFound, IsOrderText}
use Rattle.sci_reports.proofs.Orders.{if_ok_three, logged_found}
use Rattle.sci_reports.proofs.ordering.found.Goals as goal

pub returns-in_ok-sequential_order-in-Logged : goal.returns-in_ok-sequential_order-in-Logged
returns-in_ok-sequential_order-in-Logged c =
    let request = c.args.search.request in
    let before = c.args.search.before in
    let logs = c.args.logs.now in
    let last = c.args.last.now in
    let verdict = c.in_ok-sequential_order-in-Logged.field-0 in
    let searched = c.in_ok-sequential_order-in-Logged.ensures in
    if_ok_three
    (λ x. IsOrderText request before logs verdict x.text.items) (λ x. x.outcome ≡ Refused → ⊥) (λ x. (x.outcome ≡ Done) ↔ IsOrdered verdict)
    (λ x. IsFound request before logs last x.text.items x.outcome) c.told.result
    (λ x text judged ends. logged_found request before logs last verdict x.text.items x.outcome c.in-Logged.is searched.verdict searched.order text judged ends)
    c.told.ensures.text c.told.ensures.judged c.told.ensures.ends
