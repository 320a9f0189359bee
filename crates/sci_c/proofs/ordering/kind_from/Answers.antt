use Rattle.std.proofs.Common.{rules}
use Rattle.sci_c.proofs.Begun.{faulty_begun, lawful_begun}
use Rattle.sci_c.proofs.ordering.kind_from.Goals as goal

pub returns-in-Fault : goal.returns-in-Fault
returns-in-Fault c =
    let unlawful = λ (lawful : _). faulty_begun c.args.journal.now.logs c.logs.result.now c.args.first.now c.args.journal.now.last c.last.result.now
    c.in_ok-_order.field-0 c.in-Fault.line c.in-Fault.kind c.in-Fault.at c.logs.ensures.logs c.last.ensures c.in-Fault.is c.in_ok-_order.ensures.found
    (lawful_begun c.args.journal.now.first c.args.journal.now.logs c.args.journal.now.last c.args.first.now c.requires.first lawful) in
    record {
      kinds = search rules;
      ordered = (λ e. absurd cc, λ both. absurd (unlawful both.0));
      cycle = λ e. absurd cc;
      unlawful = λ e. unlawful;
    }
