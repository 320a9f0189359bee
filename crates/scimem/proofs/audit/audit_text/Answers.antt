-- What is written is the line of the verdict of the log that was read.
use Rattle.std.proofs.Common.{◌≡◌, subst, sym, ◌∙◌}
use Rattle.sci_history.specs.declared.verdict.Verdict.{Verdict}
use Rattle.sci_text.specs.{FirstFault.{IsTold}, LogFault.{IsLogFault}, LogValue.{IsLogs}, Tap.{has_failed, tapped}}
use Rattle.sci_command.specs.declared.outcome.Outcome.TheVariants.{Refused}
use Rattle.sci_command.proofs.Answers.{answer_made}
use Rattle.scimem.specs.LogAnswer.{IsAuditOf, outcome_of}
use Rattle.sci_history.specs.declared.verdict.Verdict.TheVariants as verdicts
use Rattle.scimem.proofs.audit.audit_text.Goals as goal

judged : (verdict : Verdict) → outcome_of verdict ≡ Refused → ⊥
judged verdicts.Lawful is = cc
judged (verdicts.Fault line kind at) is = cc

pub returns : goal.returns
returns g c =
    let known = g.R.Read.remaining (tapped c.args.reader.now) in
    let unread = has_failed c.read_logs.new.reader in
    let logs = c.in_ok-logs in
    let text = logs.ensures.text in
    let verdict = c.in_ok-verdict in
    let ends = c.end_of.ensures in (
      answer_made IsAuditOf (IsTold IsLogFault) known unread c.in_ok-text.text.items c.end_of.result
          (λ refused. judged verdict.verdict (sym ends ∙ refused)) (
            logs.ensures.unfailed,
            (
              text.0,
              text.1,
              record {
                nodes = logs.field-0-0;
                logs = logs.logs;
                last = c.deref.result.now;
                verdict = verdict.verdict;
                read = subst (IsLogs text.0 logs.field-0-0 logs.logs) (sym c.deref.ensures) text.2;
                judged = verdict.ensures.verdict;
                lawful = verdict.ensures.lawful;
                written = c.in_ok-text.ensures;
                ends = ends;
              },
            ),
          ),
      c.read_logs.ensures.again,
    )
