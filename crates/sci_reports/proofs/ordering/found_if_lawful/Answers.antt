-- The fault of logs that aren't lawful is what the audit found.
use Rattle.std.proofs.Common.{◌≡◌, ◌↔◌, subst}
use Rattle.sci_history.specs.{declared.verdict.Verdict.{Verdict}, Audit.{IsVerdict}, Lawful.{Lawful}}
use Rattle.sci_reports.specs.OrderAnswer.{fault_shown}
use Rattle.sci_reports.proofs.Orders.{fault_found}
use Rattle.sci_history.specs.declared.verdict.Verdict.TheVariants as verdicts
use Rattle.sci_reports.proofs.ordering.found_if_lawful.Goals as goal

pub returns-in_ok-fault_shown-in-Fault : goal.returns-in_ok-fault_shown-in-Fault
returns-in_ok-fault_shown-in-Fault c =
    let logs = c.args.logs.now in
    let last = c.args.last.now in
    let text = c.in_ok-fault_shown-in-Fault.field-0.items in
    fault_found c.args.search.request c.args.search.before logs last c.in-Fault.line c.in-Fault.kind c.in-Fault.at text
    (subst
    (λ (v : Verdict). IsVerdict logs last v × ((v ≡ verdicts.Lawful) ↔ Lawful logs last)
    × (text ≡ fault_shown c.args.search.request c.in-Fault.line c.in-Fault.kind c.in-Fault.at))
    c.in-Fault.is
    (c.in_ok-verdict.ensures.verdict, c.in_ok-verdict.ensures.lawful, c.in_ok-fault_shown-in-Fault.ensures))
