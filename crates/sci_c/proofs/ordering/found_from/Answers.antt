use Rattle.sci_c.proofs.Begun.{faulty_begun, lawful_begun}
use Rattle.sci_c.proofs.ordering.found_from.Goals as goal

pub returns-in-Fault-clause-found : goal.returns-in-Fault-clause-found
returns-in-Fault-clause-found c = λ lawful.
    faulty_begun c.args.journal.now.logs c.logs.result.now c.args.first.now c.args.journal.now.last c.last.result.now c.in_ok-order_from.field-0
    c.in-Fault.line c.in-Fault.kind c.in-Fault.at c.logs.ensures.logs c.last.ensures c.in-Fault.is c.in_ok-order_from.ensures.found
    (lawful_begun c.args.journal.now.first c.args.journal.now.logs c.args.journal.now.last c.args.first.now c.requires.first lawful)
