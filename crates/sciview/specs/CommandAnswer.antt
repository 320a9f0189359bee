-- What each command writes for its input, and how it ends.
use Rattle.std.specs.Prelude.{◌≡◌, ℕ, Bool, List, Option, Some, None}
use Rattle.sci_core.specs.declared.dead.DeadEvents.{DeadEvents}
use Rattle.sci_command.specs.declared.{outcome.Outcome.{Outcome, TheVariants.{Done}}, refusal.Refusal.{Refusal}}
use Rattle.sci_command.specs.Beginning.{AreDeadBeside}
use Rattle.sciview.specs.declared.{choice.{Choice.{Choice}, Command.{Command}}, verb.Verb.{Verb}, help.TheConstants.{HELP, VERSION}}
use Rattle.sciview.specs.declared.help.TheConstants.{ALLOWED, CHART, CHECK, EXPLAIN, JUDGE, LISTS, ORDER, OUTCOMES, PACKETS, PAGE, RANDOM, RUN, STATS, TRACE}
use Rattle.sciview.specs.declared.verb.Verb.TheVariants.{Allowed, Chart, Check, Explain, Judge, Lists, Order, Outcomes, Packets, Page, Random, Run}
use Rattle.sciview.specs.declared.verb.Verb.TheVariants.{Stats, Trace}
use Rattle.sci_allowed.specs.AllowedAnswer.{IsAllowedAnswer}
use Rattle.sci_axe.specs.JudgeAnswer.{IsJudgeAnswer}
use Rattle.sci_charts.specs.ChartAnswer.{IsChartAnswer}
use Rattle.sci_pages.specs.PageAnswer.{IsPageAnswer}
use Rattle.sci_reports.specs.{CheckAnswer.{IsCheckAnswer}, ExplainAnswer.{IsExplainAnswer}, OrderAnswer.{IsOrderAnswer}}
use Rattle.sci_traces.specs.{ListsAnswer.{IsListsAnswer}, PacketsAnswer.{IsPacketsAnswer}, TraceAnswer.{IsTraceAnswer}}
use Rattle.sci_outcomes.specs.{OutcomesAnswer.{IsOutcomesAnswer}, RunAnswer.{IsRunAnswer}}
use Rattle.sci_random_schedules.specs.RandomAnswer.{IsRandomAnswer}
use Rattle.sci_statistics.specs.{StatsAnswer.{IsStatsAnswer}, TransitionsAnswer.{IsTransitionsAnswer}}
use Rattle.sci_statistics.specs.declared.coverage.Coverage.{Coverage}
use Rattle.sciview.specs.declared.choice.Command.TheVariants as commands
use Rattle.sciview.specs.Choice.{shown_names}

-- what a command says of itself
abbrev pub help_text : Verb → List ℕ
help_text Order = ORDER.now
help_text Explain = EXPLAIN.now
help_text Judge = JUDGE.now
help_text Run = RUN.now
help_text Outcomes = OUTCOMES.now
help_text Allowed = ALLOWED.now
help_text Check = CHECK.now
help_text Packets = PACKETS.now
help_text Trace = TRACE.now
help_text Lists = LISTS.now
help_text Stats = STATS.now
help_text Chart = CHART.now
help_text Page = PAGE.now
help_text Random = RANDOM.now

-- what the program says of a command, or of all
abbrev pub help_for : Option Verb → List ℕ
help_for None = HELP.now
help_for (Some verb) = help_text verb

-- The text that a command writes, and how it ends, for the bytes of a reader, which has failed or not. If `judge` writes a log,
-- `lines` are the addresses of its lines of memory. If `page` writes a page, this is its title, if it is given one. What
-- `stats --transitions` counts is added to the counts so far.
abbrev pub IsAnswerFor : (lines : List ℕ) → (so_far : Coverage) → (title : Option (List ℕ)) → Command → Option (List ℕ) → Bool → List ℕ → Outcome → Type 0
IsAnswerFor lines so_far title (commands.Order request) = IsOrderAnswer request
IsAnswerFor lines so_far title (commands.Explain json) = IsExplainAnswer json
IsAnswerFor lines so_far title commands.Check = IsCheckAnswer
IsAnswerFor lines so_far title (commands.Judge request) = IsJudgeAnswer request lines
IsAnswerFor lines so_far title commands.Packets = IsPacketsAnswer
IsAnswerFor lines so_far title (commands.Trace request) = IsTraceAnswer request
IsAnswerFor lines so_far title (commands.Lists line) = IsListsAnswer line
IsAnswerFor lines so_far title (commands.Stats request) = IsStatsAnswer request
IsAnswerFor lines so_far title (commands.Transitions json) = IsTransitionsAnswer json so_far
IsAnswerFor lines so_far title (commands.Chart request) = IsChartAnswer request
IsAnswerFor lines so_far title (commands.Page request) = IsPageAnswer request title
IsAnswerFor lines so_far title (commands.Random walk dead) = λ input failed. IsRandomAnswer walk dead
IsAnswerFor lines so_far title (commands.Run request) = IsRunAnswer request
IsAnswerFor lines so_far title (commands.Outcomes request) = IsOutcomesAnswer request
IsAnswerFor lines so_far title (commands.Allowed request) = IsAllowedAnswer request
IsAnswerFor lines so_far title (commands.Help verb) = λ input failed text outcome. (text ≡ help_for verb) × (outcome ≡ Done)
IsAnswerFor lines so_far title commands.Version = λ input failed text outcome. (text ≡ VERSION.now) × (outcome ≡ Done)

-- the same of what words choose
abbrev pub IsAnswerTo : (lines : List ℕ) → (so_far : Coverage) → Choice → Option (List ℕ) → Bool → List ℕ → Outcome → Type 0
IsAnswerTo lines so_far choice = IsAnswerFor lines so_far (shown_names choice.names).title choice.command

-- the addresses of the lines of a log are told by `judge`, and by no other command
abbrev pub KeepsLines : Command → (old new : List ℕ) → Type 0
KeepsLines (commands.Judge request) old new = Unit {0}
KeepsLines command old new = new ≡ old

-- the events that weren't enabled of which standard error says so: those of the schedules of `stats` and `chart`, and of no other
-- command
abbrev pub AreDeadOf : Command → Option (List ℕ) → Bool → Option Refusal → Option DeadEvents → Type 0
AreDeadOf (commands.Stats request) known failed refusal dead = AreDeadBeside known failed refusal dead
AreDeadOf (commands.Transitions json) known failed refusal dead = AreDeadBeside known failed refusal dead
AreDeadOf (commands.Chart request) known failed refusal dead = AreDeadBeside known failed refusal dead
AreDeadOf command known failed refusal dead = dead ≡ None
