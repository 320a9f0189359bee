use Rattle.sci_text.specs.Tap.{has_failed, tapped}
use Rattle.sci_command.proofs.Answers.{answer_made}
use Rattle.sci_command.specs.AskedLine.{IsAskedFault}
use Rattle.sci_traces.specs.TraceAnswer.{IsTraceOf}
use Rattle.sci_traces.proofs.tracing.trace.Goals as goal

pub returns : goal.returns
returns g c =
    let known = g.R.Read.remaining (tapped c.args.reader.now) in
    let unread = has_failed c.read_asked.new.reader in
    let asked = c.in_ok-schedule.ensures in
    let found = c.in_ok-traced.field-0 in (
      answer_made (IsTraceOf c.args.request) (IsAskedFault c.args.request.line) known unread found.text.items found.outcome
          c.in_ok-traced.ensures.judged (
            asked.read.0,
            (
              asked.read.1.0,
              asked.read.1.1,
              record { schedule = c.in_ok-schedule.schedule; good = asked.good; read = asked.read.1.2; has = asked.has; trace = c.in_ok-traced.ensures.trace },
            ),
          ),
      c.read_asked.ensures.again,
    )
