use Rattle.std.proofs.Common.{◌∙◌, arith}
use Rattle.sci_windows.proofs.{Loops.{audit_within, lawful_is, verdict_is}, Verdicts.{IsWindow}}
use Rattle.sci_windows.proofs.auditing.audit_from.Goals.{After-audit}
use Rattle.sci_windows.proofs.auditing.audit_from.Goals as goal

pub audit-requires : goal.audit-requires
audit-requires c =
    audit_within c.args.first.now c.args.last.now c.args.logs.now c.in_ok-relative.relative c.deref.result.now c.in_ok-relative.ensures.logs
    (c.deref.ensures ∙ c.in_ok-contents.ensures.contents) c.requires.lines c.requires.within

window : (c : After-audit) → IsWindow c.args.logs.now c.args.first.now c.args.last.now
window c = grind arith

pub returns-clause-verdict : goal.returns-clause-verdict
returns-clause-verdict c =
    verdict_is c.args.first.now c.args.last.now c.args.logs.now c.in_ok-relative.relative c.deref.result.now c.audit.result
    (window (goal.at.returns-clause-verdict c).After-audit) c.in_ok-relative.ensures.logs (c.deref.ensures ∙ c.in_ok-contents.ensures.contents)
    c.audit.ensures.verdict

pub returns-clause-lawful : goal.returns-clause-lawful
returns-clause-lawful c = grind (arith, lawful_is, window)
