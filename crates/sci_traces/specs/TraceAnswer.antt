-- What `trace` writes for its input.
use Rattle.std.specs.Prelude.{◌≡◌, ℕ, ◌+◌, Bool, ◌&&◌, List, [], ◌∷◌, ◌++◌, codes, bytes_eq, Option, Some, None, is_none, if◌then◌else◌}
use Rattle.sci_words.specs.declared.event.Event.{Event}
use Rattle.sci_history.specs.declared.entry.Entry.{Entry}
use Rattle.sci_cache.specs.Cache.{Letter}
use Rattle.sci_core.specs.{declared.obstacle.Obstacle.{Obstacle}, Core.{Core, node_of, step, stepping}}
use Rattle.sci_core.specs.Obstacles.{obstacle_to}
use Rattle.sci_statistics.specs.About.{letter_sent, letter_taken, line_about, line_changed}
use Rattle.sci_command.specs.Beginning.{before}
use Rattle.sci_text.specs.{Number.{number, field}, Log.{issue_text, outcome_text}}
use Rattle.sci_text.specs.Schedule.{ScheduleValue, IsSchedule, event_line, schedule_text}
use Rattle.sci_command.specs.{declared.outcome.Outcome.{Outcome, TheVariants.{Done, Unlawful}}, Answer.{IsAnswerBy}}
use Rattle.sci_command.specs.{PacketLine.{line_of_packet}, AskedLine.{HasLine, IsAskedFault, is_asked}}
use Rattle.sci_traces.specs.{declared.tracing.TraceRequest.{TraceRequest}, JsonEvent.{json_line}, Logged.{entry_logged}}
use Rattle.sci_statistics.specs.Standing.{cache_at, home_at}
use Rattle.sci_traces.specs.{Standing.{said}, StateWords.{state_text, home_text}}
use Rattle.sci_traces.specs.ObstacleWords.{line_named, obstacle_words}

-- ---- packets

-- the line of a packet, as `decode` prints it
unfoldable pub letter_line : Letter → List ℕ
letter_line letter = line_of_packet letter.target letter.source letter.control letter.line letter.body

-- what was done with a packet, if there is one, and its line
unfoldable pub moved_text : List ℕ → Option Letter → List ℕ
moved_text done None = []
moved_text done (Some letter) = done ++ letter_line letter

-- ---- the states of a line

-- the words for the state of a line in a node's cache; none if there is no such node or line
unfoldable pub cache_text : Core → ℕ → ℕ → List ℕ
cache_text core n line = said state_text (cache_at core n line)

-- the words for the state of a line's home; none if it isn't at this node
unfoldable pub home_words : Core → ℕ → ℕ → List ℕ
home_words core n line = said home_text (home_at core n line)

-- the same of a line, if there is one
abbrev pub cache_on : Core → ℕ → Option ℕ → List ℕ
cache_on core n None = []
cache_on core n (Some line) = cache_text core n line

abbrev pub home_on : Core → ℕ → Option ℕ → List ℕ
home_on core n None = []
home_on core n (Some line) = home_words core n line

unfoldable pub arrow_text : List ℕ → List ℕ → List ℕ
arrow_text old new = old ++ (codes " -> " ++ (new ++ 10 ∷ []))

-- the words before and after, if they differ
unfoldable pub change_text : List ℕ → List ℕ → List ℕ → List ℕ
change_text label old new = if bytes_eq old new then [] else label ++ arrow_text old new

unfoldable pub cache_label : ℕ → ℕ → List ℕ
cache_label n line = codes "  cache of" ++ (field n ++ (codes ", line" ++ (field line ++ codes ": ")))

unfoldable pub home_label : ℕ → List ℕ
home_label line = codes "  home of line" ++ (field line ++ codes ": ")

-- what changed of a line at a node: its state in the cache, and at the home, from these words before
unfoldable pub changes_text : List ℕ → List ℕ → Core → ℕ → Option ℕ → List ℕ
changes_text cache home next n None = []
changes_text cache home next n (Some line) =
    change_text (cache_label n line) cache (cache_text next n line) ++ change_text (home_label line) home (home_words next n line)

-- ---- the entry of an operation that was performed

unfoldable pub entry_text : Option Entry → List ℕ
entry_text None = []
entry_text (Some entry) = codes "  logged " ++ ((issue_text entry ++ outcome_text entry) ++ 10 ∷ [])

-- ---- an event

-- what changed of the line that an event is about, at the event's node
abbrev pub changes_of : Core → Core → Event → List ℕ
changes_of core next e = changes_text (cache_on core (node_of e) (line_changed core e)) (home_on core (node_of e) (line_changed core e)) next (node_of e)
    (line_changed core e)

-- what an event did that led from one state to the next
unfoldable pub effect_text : Core → Core → Event → List ℕ
effect_text core next e =
    moved_text (codes "  sent ") (letter_sent core e)
    ++ (moved_text (codes "  took ") (letter_taken core e) ++ (changes_of core next e ++ entry_text (entry_logged next e)))

-- the line that says what stands in the way of an event, where the line that it names is in this state
unfoldable pub reason_line : Obstacle → Event → List ℕ → List ℕ
reason_line obstacle e state = codes "  not enabled: " ++ (obstacle_words obstacle e state ++ 10 ∷ [])

-- what stands in the way of an event
unfoldable pub reason_text : Core → Event → Option Obstacle → List ℕ
reason_text core e None = []
reason_text core e (Some obstacle) = reason_line obstacle e (cache_text core (node_of e) (line_named e))

-- what comes of an event that leads to this state, or isn't enabled
unfoldable pub outcome_of : Core → Event → Option Core → List ℕ
outcome_of core e None = reason_text core e (obstacle_to core e)
outcome_of core e (Some next) = effect_text core next e

-- the number of the event's line, the event, and what comes of it
unfoldable pub event_text : Core → ℕ → Event → List ℕ
event_text core k e = number k ++ (codes ": " ++ (event_line e ++ outcome_of core e (stepping core e)))

-- ---- the events that are asked for

-- whether an event is traced
abbrev pub is_traced : TraceRequest → Core → Event → Bool
is_traced request core e = is_asked request.line (line_about core e)

-- ---- events one after another

-- an event and what it does, as one JSON object or in words
abbrev pub shown_text : Bool → Core → ℕ → Event → List ℕ
shown_text json core k e = if json then json_line core k e else event_text core k e

-- whether nothing of a trace comes behind this event, which is traced
abbrev pub is_end : Bool → Core → Event → Bool
is_end strict core e = strict && is_none (stepping core e)

-- each event that is asked for, in the state to which all before it lead; a strict trace ends with the first of them that
-- isn't enabled
abbrev pub trace_text : TraceRequest → Core → ℕ → List Event → List ℕ
trace_text request core k [] = []
trace_text request core k (e ∷ events) =
    if is_traced request core e
    then shown_text request.json core k e ++ (if is_end request.strict core e then [] else trace_text request (step core e) (k + 1) events)
    else trace_text request (step core e) (k + 1) events

-- a strict trace is Unlawful if one of its events isn't enabled
abbrev pub trace_outcome : TraceRequest → Core → List Event → Outcome
trace_outcome request core [] = Done
trace_outcome request core (e ∷ events) =
    if is_traced request core e
    then (if is_end request.strict core e then Unlawful else trace_outcome request (step core e) events)
    else trace_outcome request (step core e) events

-- ---- the answer

-- the trace of a schedule, whose first event stands in line 2 of its text
pub record IsTrace (request : TraceRequest) (schedule : ScheduleValue) (text : List ℕ) (outcome : Outcome) : Type 0 where
  pub written : text ≡ trace_text request (before schedule) 2 schedule.events
  pub ends : outcome ≡ trace_outcome request (before schedule) schedule.events

-- the input is the text of a schedule whose machine has the line that is asked for, and its trace is written
pub record IsTraceOf (request : TraceRequest) (input text : List ℕ) (outcome : Outcome) : Type 0 where
  pub schedule : ScheduleValue
  pub good : IsSchedule schedule
  pub read : input ≡ schedule_text schedule
  pub has : HasLine request.line schedule
  pub trace : IsTrace request schedule text outcome

-- what `trace` writes, and how it ends, for the bytes of a reader, which has failed or not
abbrev pub IsTraceAnswer : TraceRequest → Option (List ℕ) → Bool → List ℕ → Outcome → Type 0
IsTraceAnswer request = IsAnswerBy (IsTraceOf request) (IsAskedFault request.line)
