use Rattle.std.proofs.Common.{rules, sym}
use Rattle.sci_text.specs.{FirstFault.{IsTold}, LogFault.{IsLogFault}, Tap.{has_failed, tapped}}
use Rattle.sci_command.proofs.Answers.{answer_made, answer_refused}
use Rattle.sci_reports.specs.OrderAnswer.{IsOrderAnswer, IsOrderOf}
use Rattle.sci_reports.proofs.ordering.order.Goals as goal

pub returns : goal.returns
returns g c =
    let known = g.R.Read.remaining (tapped c.args.reader.now) in
    let unread = has_failed c.read_input.new.reader in
    let written = c.in_ok-ordered.field-0 in
    let is = c.in_ok-ordered.ensures c.in_ok-bytes.bytes.items (rw (sym c.deref.ensures.value) c.in_ok-log.ensures.read) in (
      answer_made (IsOrderOf c.args.request) (IsTold IsLogFault) known unread written.text.items written.outcome is.found.judged
          (c.in_ok-bytes.ensures.unfailed, (c.in_ok-bytes.bytes.items, c.in_ok-bytes.ensures.read, is)),
      c.read_input.ensures.again,
    )

pub returns-in_err-log : goal.returns-in_err-log
returns-in_err-log g c =
    let refused = c.from_residual-in_err-log in (
      answer_refused (IsOrderAnswer c.args.request) IsLogFault _ _ c.deref.result.now refused.result c.in_ok-bytes.ensures.unfailed
          (rw c.deref.ensures.value c.in_ok-bytes.ensures.read) refused.ensures.0 (search rules),
      c.read_input.ensures.again,
    )
