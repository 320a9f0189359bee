use Rattle.std.proofs.lemmas.Result.{IfOk-weaker}
use Rattle.sci_command.specs.declared.answer.Answer.{Answer}
use Rattle.sci_reports.specs.ExplainAnswer.{IsExplained, IsExplanationOf}
use Rattle.sci_reports.proofs.read_log.ReadLog.explained.Goals as goal

pub returns : goal.returns
returns c text is =
    let log = c.args.self.now in
    IfOk-weaker c.explained.result (λ (x : Answer). IsExplained c.args.json log.before log.logs log.last.value x.text.items x.outcome)
    (λ (x : Answer). IsExplanationOf c.args.json text x.text.items x.outcome)
    (λ x found. record {
      nodes = log.nodes;
      logs = log.logs;
      last = log.last.value;
      read = is.read;
      before = log.before;
      places = is.places;
      found = found;
    }) c.explained.ensures
