use Rattle.std.proofs.Common.{rules, sym}
use Rattle.sci_text.specs.{LogFault.{IsLogFault}, FirstFault.{IsTold}, Tap.{has_failed, tapped}}
use Rattle.sci_command.proofs.Answers.{answer_made, answer_refused}
use Rattle.sci_reports.specs.ExplainAnswer.{IsExplainAnswer, IsExplanationOf}
use Rattle.sci_reports.proofs.Answered.{explained_judged}
use Rattle.sci_reports.proofs.explaining.explain.Goals as goal

pub returns : goal.returns
returns g c =
    let known = g.R.Read.remaining (tapped c.args.reader.now) in
    let unread = has_failed c.read_input.new.reader in
    let written = c.in_ok-explained.field-0 in
    let is = c.in_ok-explained.ensures c.in_ok-bytes.bytes.items (rw (sym c.deref.ensures.value) c.in_ok-log.ensures.read) in
    let never = explained_judged c.args.json is.before is.logs is.last written.text.items written.outcome is.found in (
      answer_made (IsExplanationOf c.args.json) (IsTold IsLogFault) known unread written.text.items written.outcome never
          (c.in_ok-bytes.ensures.unfailed, (c.in_ok-bytes.bytes.items, c.in_ok-bytes.ensures.read, is)),
      c.read_input.ensures.again,
    )

pub returns-in_err-log : goal.returns-in_err-log
returns-in_err-log g c =
    let refused = c.from_residual-in_err-log in (
      answer_refused (IsExplainAnswer c.args.json) IsLogFault _ _ c.deref.result.now refused.result c.in_ok-bytes.ensures.unfailed
          (rw c.deref.ensures.value c.in_ok-bytes.ensures.read) refused.ensures.0 (search rules),
      c.read_input.ensures.again,
    )
