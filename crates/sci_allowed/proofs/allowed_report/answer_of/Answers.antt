use Rattle.std.proofs.Common.{ℕ, Option, sym, subst}
use Rattle.sci_drive.specs.Rounds.{most_pending}
use Rattle.sci_allowed.specs.{Allowed.{AreRows}, AllowedAnswer.{IsTextOf, rows_text}}
use Rattle.sci_allowed.proofs.Verdicts.{verdict_is}
use Rattle.sci_allowed.proofs.allowed_report.answer_of.Goals as goal

pub returns-in_ok-judged_rows-in-None-clause-text : goal.returns-in_ok-judged_rows-in-None-clause-text
returns-in_ok-judged_rows-in-None-clause-text c =
    let script = c.args.litmus.now.script in
    let window = most_pending c.args.request.issuing in
    let last = c.args.last.now in
    let rows = c.deref.result.now in
    let answer = c.in_ok-judged_rows-in-None.field-0 in
    let are = subst (AreRows script window) (sym c.deref.ensures.value) c.in_ok-rows-in-None.ensures.rows in
    let verdict = verdict_is script window rows are last (rows_text rows) answer.text.items answer.outcome c.in_ok-judged_rows-in-None.ensures in
    subst (λ (show : Option ℕ). IsTextOf script window show last answer.text.items answer.outcome) (sym c.in-None.is) (record {
      rows = rows;
      are = are;
      verdict = verdict.0;
      is_verdict = verdict.2;
      written = verdict.1;
    })
