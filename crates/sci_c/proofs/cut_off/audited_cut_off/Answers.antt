use Rattle.std.proofs.Common.{ap, length, ◌∙◌}
use Rattle.sci_c.proofs.Begun.{cut_off_zeros}
use Rattle.sci_c.proofs.cut_off.audited_cut_off.Goals as goal

pub returns-in_ok-first-in-None-clause-verdict : goal.returns-in_ok-first-in-None-clause-verdict
returns-in_ok-first-in-None-clause-verdict c =
    cut_off_zeros c.args.journal.now.first c.args.journal.now.logs c.logs-in-None.result.now c.args.journal.now.last c.deref.result.now c.lines.result
    c.audit_cut_off-in-None.result c.in-None.ensures.first c.logs-in-None.ensures.logs (c.lines.ensures.lines ∙ ap length c.last.ensures)
    (c.deref.ensures ∙ c.in_ok-first-in-None.ensures) c.audit_cut_off-in-None.ensures.verdict
