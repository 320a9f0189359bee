-- Each command answers as its contract says. The help and the version are written as they stand.
use Rattle.std.proofs.Common.{◌≡◌, ℕ, List, Bool, Option, None, refl}
use Rattle.sci_text.specs.{LogFault.{IsLogFault}, ScheduleFault.{IsScheduleFault}, FirstFault.{IsTold}}
use Rattle.sci_text.specs.Tap.{has_failed, tapped}
use Rattle.sci_command.specs.declared.{outcome.Outcome.{Outcome, TheVariants.{Done, Refused}}, refusal.Refusal.{Refusal}}
use Rattle.sci_command.specs.{Answer.{IsAnswerAlone, answer_in}, AskedLine.{IsAskedFault}, Writing.{HasWritten}}
use Rattle.sci_command.proofs.Finished.{answered_by, carried_out, dead_beside}
use Rattle.sciview.specs.declared.help.TheConstants.{VERSION}
use Rattle.sci_allowed.specs.AllowedAnswer.{IsAllowedAnswer, IsAllowedRefusal}
use Rattle.sci_axe.specs.JudgeAnswer.{IsJudgeAnswer, IsJudgeRefusal}
use Rattle.sci_charts.specs.ChartAnswer.{IsChartAnswer}
use Rattle.sci_pages.specs.PageAnswer.{IsPageAnswer, IsPageRefusal}
use Rattle.sci_reports.specs.{CheckAnswer.{IsCheckAnswer, IsLastFault}, ExplainAnswer.{IsExplainAnswer}}
use Rattle.sci_reports.specs.OrderAnswer.{IsOrderAnswer}
use Rattle.sci_traces.specs.{ListsAnswer.{IsListsAnswer}, PacketsAnswer.{IsPacketsAnswer}, TraceAnswer.{IsTraceAnswer}}
use Rattle.sci_outcomes.specs.{OutcomesAnswer.{IsOutcomesAnswer, IsOutcomesRefusal}, RunAnswer.{IsLongRun, IsRunAnswer, IsRunRefusal}}
use Rattle.sci_random_schedules.specs.RandomAnswer.{IsRandomAnswer, IsWalkFault}
use Rattle.sci_statistics.specs.{StatsAnswer.{IsStatsAnswer, IsStatsFault}, TransitionsAnswer.{IsTransitionsAnswer}}
use Rattle.sciview.specs.{Choice.{shown_names}, CommandAnswer.{help_for}}
use Rattle.sciview.proofs.carrying_out.carried_out.Goals as goal

-- words of the program's own
words_shown : (words : List ℕ) {old new : Option (List ℕ)} {failed : Bool} {outcome : Outcome} (known : Option (List ℕ)) (unread : Bool)
    (refusal : Option Refusal) → refusal ≡ None
    → HasWritten old new failed outcome (λ text ends. (ends ≡ Refused → ⊥) × ((text ≡ words) × (ends ≡ Done)))
    → HasWritten old new failed outcome (IsAnswerAlone (λ input read text ends. (text ≡ words) × (ends ≡ Done)) refusal known unread)
words_shown words known unread refusal none written = rw none written

pub returns-in-Order-clause-answer : goal.returns-in-Order-clause-answer
returns-in-Order-clause-answer g c =
    let shown = c.show in
    rw c.in-Order.is (carried_out (IsOrderAnswer c.in-Order.request) (IsTold IsLogFault) c.order.result shown.result.refusal (λ text is. is) c.order.ensures
    shown.ensures.refusal shown.ensures.written shown.ensures.again)

pub returns-in-Explain-clause-answer : goal.returns-in-Explain-clause-answer
returns-in-Explain-clause-answer g c =
    let shown = c.show-in-Explain in
    rw c.in-Explain.is
    (carried_out (IsExplainAnswer c.in-Explain.json) (IsTold IsLogFault) c.explain.result shown.result.refusal (λ text is. is) c.explain.ensures
    shown.ensures.refusal shown.ensures.written shown.ensures.again)

pub returns-in-Check-clause-answer : goal.returns-in-Check-clause-answer
returns-in-Check-clause-answer g c =
    let shown = c.show-in-Check in
    rw c.in-Check.is (carried_out IsCheckAnswer (IsTold IsLastFault) c.check.result shown.result.refusal (λ text is. is) c.check.ensures
    shown.ensures.refusal shown.ensures.written shown.ensures.again)

pub returns-in-Judge-clause-answer : goal.returns-in-Judge-clause-answer
returns-in-Judge-clause-answer g c =
    let shown = c.show-in-Judge in
    let request = c.in-Judge.request in
    rw c.in-Judge.is (carried_out (IsJudgeAnswer request c.judge_trace.new.lines.items) (IsJudgeRefusal request) c.judge_trace.result
    shown.result.refusal (λ text is. is) c.judge_trace.ensures shown.ensures.refusal shown.ensures.written shown.ensures.again)

pub returns-in-Packets-clause-answer : goal.returns-in-Packets-clause-answer
returns-in-Packets-clause-answer g c =
    let shown = c.show-in-Packets in
    rw c.in-Packets.is (carried_out IsPacketsAnswer (IsTold IsScheduleFault) c.packets.result shown.result.refusal (λ text is. is) c.packets.ensures
    shown.ensures.refusal shown.ensures.written shown.ensures.again)

pub returns-in-Trace-clause-answer : goal.returns-in-Trace-clause-answer
returns-in-Trace-clause-answer g c =
    let shown = c.show-in-Trace in
    rw c.in-Trace.is (carried_out (IsTraceAnswer c.in-Trace.request) (IsAskedFault c.in-Trace.request.line) c.trace.result
    shown.result.refusal (λ text is. is) c.trace.ensures
    shown.ensures.refusal shown.ensures.written shown.ensures.again)

pub returns-in-Lists-clause-answer : goal.returns-in-Lists-clause-answer
returns-in-Lists-clause-answer g c =
    let shown = c.show-in-Lists in
    rw c.in-Lists.is (carried_out (IsListsAnswer c.in-Lists.line) (IsAskedFault c.in-Lists.line) c.lists.result
    shown.result.refusal (λ text is. is) c.lists.ensures
    shown.ensures.refusal shown.ensures.written shown.ensures.again)

pub returns-in-Stats-clause-answer : goal.returns-in-Stats-clause-answer
returns-in-Stats-clause-answer g c =
    let shown = c.show-in-Stats in
    let parted = c.parted-answered.ensures in
    let beside = c.beside.ensures in
    rw (c.in-Stats.is, beside.outcome, beside.refusal) (carried_out (IsStatsAnswer c.in-Stats.request) (IsStatsFault c.in-Stats.request)
    (answer_in c.stats.result) shown.result.refusal (λ text is. is) c.stats.ensures.answer (rw parted.answer at shown.ensures.refusal)
    (rw parted.answer at shown.ensures.written) shown.ensures.again)

pub returns-in-Stats-clause-dead : goal.returns-in-Stats-clause-dead
returns-in-Stats-clause-dead g c =
    let parted = c.parted-answered.ensures in
    let beside = c.beside.ensures in
    let refusal = rw parted.answer at c.show-in-Stats.ensures.refusal in
    rw (c.in-Stats.is, beside.refusal, beside.dead)
    (dead_beside _ _ c.stats.result c.stats.ensures.dead c.show-in-Stats.result.refusal refusal c.parted-answered.result.1 parted.dead)

pub returns-in-Transitions-clause-answer : goal.returns-in-Transitions-clause-answer
returns-in-Transitions-clause-answer g c =
    let shown = c.show-in-Transitions in
    let parted = c.parted-answered-in-Transitions.ensures in
    let beside = c.beside-in-Transitions.ensures in
    rw (c.in-Transitions.is, beside.outcome, beside.refusal)
    (carried_out (IsTransitionsAnswer c.in-Transitions.json c.args.kept.now.coverage) (IsTold IsScheduleFault)
    (answer_in c.transitions.result) shown.result.refusal (λ text is. is) c.transitions.ensures.answer (rw parted.answer at shown.ensures.refusal)
    (rw parted.answer at shown.ensures.written) shown.ensures.again)

pub returns-in-Transitions-clause-dead : goal.returns-in-Transitions-clause-dead
returns-in-Transitions-clause-dead g c =
    let parted = c.parted-answered-in-Transitions.ensures in
    let beside = c.beside-in-Transitions.ensures in
    let refusal = rw parted.answer at c.show-in-Transitions.ensures.refusal in
    rw (c.in-Transitions.is, beside.refusal, beside.dead)
    (dead_beside _ _ c.transitions.result c.transitions.ensures.dead c.show-in-Transitions.result.refusal refusal c.parted-answered-in-Transitions.result.1
    parted.dead)

pub returns-in-Chart-clause-answer : goal.returns-in-Chart-clause-answer
returns-in-Chart-clause-answer g c =
    let shown = c.show-in-Chart in
    let parted = c.parted-answered-in-Chart.ensures in
    let beside = c.beside-in-Chart.ensures in
    rw (c.in-Chart.is, beside.outcome, beside.refusal) (carried_out (IsChartAnswer c.in-Chart.request) (IsAskedFault c.in-Chart.request.line)
    (answer_in c.chart.result) shown.result.refusal (λ text is. is) c.chart.ensures.answer (rw parted.answer at shown.ensures.refusal)
    (rw parted.answer at shown.ensures.written) shown.ensures.again)

pub returns-in-Chart-clause-dead : goal.returns-in-Chart-clause-dead
returns-in-Chart-clause-dead g c =
    let parted = c.parted-answered-in-Chart.ensures in
    let beside = c.beside-in-Chart.ensures in
    let refusal = rw parted.answer at c.show-in-Chart.ensures.refusal in
    rw (c.in-Chart.is, beside.refusal, beside.dead)
    (dead_beside _ _ c.chart.result c.chart.ensures.dead c.show-in-Chart.result.refusal refusal c.parted-answered-in-Chart.result.1 parted.dead)

pub returns-in-Page-clause-answer : goal.returns-in-Page-clause-answer
returns-in-Page-clause-answer g c =
    let shown = c.show-in-Page in
    let request = c.in-Page.request in
    let title = (shown_names c.args.choice.now.names).title in
    rw c.in-Page.is (carried_out (IsPageAnswer request title) (IsPageRefusal request title) c.page.result
    shown.result.refusal (λ text is. is) c.page.ensures shown.ensures.refusal shown.ensures.written shown.ensures.again)

pub returns-in-Run-clause-answer : goal.returns-in-Run-clause-answer
returns-in-Run-clause-answer g c =
    let shown = c.show-in-Run in
    let long = IsLongRun c.in-Run.request in
    rw c.in-Run.is (carried_out (IsRunAnswer c.in-Run.request) (IsRunRefusal long) c.run.result shown.result.refusal (λ text is. is) c.run.ensures
    shown.ensures.refusal shown.ensures.written shown.ensures.again)

pub returns-in-Outcomes-clause-answer : goal.returns-in-Outcomes-clause-answer
returns-in-Outcomes-clause-answer g c =
    let shown = c.show-in-Outcomes in
    let request = c.in-Outcomes.request in
    rw c.in-Outcomes.is (carried_out (IsOutcomesAnswer request) (IsOutcomesRefusal request) c.outcomes_of.result shown.result.refusal
    (λ text is. is) c.outcomes_of.ensures shown.ensures.refusal shown.ensures.written shown.ensures.again)

pub returns-in-Allowed-clause-answer : goal.returns-in-Allowed-clause-answer
returns-in-Allowed-clause-answer g c =
    let shown = c.show-in-Allowed in
    let request = c.in-Allowed.request in
    rw c.in-Allowed.is (carried_out (IsAllowedAnswer request) (IsAllowedRefusal request) c.allowed.result shown.result.refusal (λ text is. is)
    c.allowed.ensures shown.ensures.refusal shown.ensures.written shown.ensures.again)

pub returns-in-Random-clause-answer : goal.returns-in-Random-clause-answer
returns-in-Random-clause-answer g c =
    let walk = c.in-Random.walk in
    let dead = c.in-Random.dead in
    let drawn = c.random_schedule in
    let reader = c.args.reader.now in
    let shown = c.show-in-Random in
    rw c.in-Random.is (carried_out (λ input failed. IsRandomAnswer walk dead) (λ kind input failed. IsWalkFault walk dead kind) drawn.result
    shown.result.refusal (λ text is. is)
    (answered_by _ _ (g.R.Read.remaining (tapped reader)) (has_failed reader) drawn.result drawn.ensures.answer drawn.ensures.fault, refl)
    shown.ensures.refusal shown.ensures.written shown.ensures.again)

pub returns-in-Help-clause-answer : goal.returns-in-Help-clause-answer
returns-in-Help-clause-answer g c =
    let shown = c.show_words in
    let help = c.help_of.ensures in
    rw c.in-Help.is (record {
      answers = words_shown (help_for c.in-Help.verb) _ _ shown.result.refusal shown.ensures.refusal (rw help at shown.ensures.written);
      read_no_more = refl;
      wrote_no_more = shown.ensures.again;
    })

pub returns-in-Version-clause-answer : goal.returns-in-Version-clause-answer
returns-in-Version-clause-answer g c =
    let shown = c.show_words-in-Version in
    rw c.in-Version.is (record {
      answers = words_shown VERSION.now _ _ shown.result.refusal shown.ensures.refusal shown.ensures.written;
      read_no_more = refl;
      wrote_no_more = shown.ensures.again;
    })
