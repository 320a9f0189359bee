use Rattle.std.proofs.Common.{sym}
use Rattle.sci_c.proofs.Begun.{audit_begun, audit_zeros}
use Rattle.sci_c.proofs.texts.audited.Goals as goal

pub returns-in-Some-clause-lawful : goal.returns-in-Some-clause-lawful
returns-in-Some-clause-lawful c =
    audit_begun c.args.journal.now.first c.args.journal.now.logs c.logs.result.now c.args.journal.now.last c.last.result.now c.in-Some.first.now
    c.audit_from.result c.in-Some.ensures.first c.logs.ensures.logs c.last.ensures c.audit_from.ensures.lawful

pub returns-in-None-clause-lawful : goal.returns-in-None-clause-lawful
returns-in-None-clause-lawful c =
    audit_zeros c.args.journal.now.first c.args.journal.now.logs c.logs-in-None.result.now c.args.journal.now.last c.last-in-None.result.now
    c.audit.result (sym c.in-None.ensures.first) c.logs-in-None.ensures.logs c.last-in-None.ensures c.audit.ensures.lawful
