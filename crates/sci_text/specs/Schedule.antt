-- Schedules: what they say, and the one text of each.
use Rattle.std.specs.{Prelude.{ℕ, ◌<◌, ◌≤◌, List, [], ◌∷◌, ◌++◌, length, codes, All}, List.{flat_map}}
use Rattle.sci_words.specs.declared.{limits.TheConstants.{MAX_EVENTS}, event.Event.{Event}}
use Rattle.sci_words.specs.declared.event.Event.TheVariants.{Issue, Perform, Ask, Serve, Refuse, Reply, Accept}
use Rattle.sci_words.specs.{Event.{kind_of, kind_word, word_of_kind}, Extent.{AreWithinLimits}}
use Rattle.sci_text.specs.{declared.script.PushFault.{PushFault}, Number.{field}, Operation.{operation}}
use Rattle.sci_text.specs.Script.{IsWithin, Refusal, machine_line}

-- a machine's size, and events in text order
pub record ScheduleValue : Type 0 where
  pub nodes : ℕ
  pub lines : ℕ
  pub slots : ℕ
  pub events : List Event

-- every node is one of the machine's, and the line and the word are in range
abbrev pub IsEventWithin : ℕ → ℕ → Event → Type 0
IsEventWithin nodes lines (Issue node op) = IsWithin nodes lines node op
IsEventWithin nodes lines (Perform node line) = (node < nodes) × (line < lines)
IsEventWithin nodes lines (Ask node line kind) = (node < nodes) × (line < lines)
IsEventWithin nodes lines (Serve from node) = (from < nodes) × (node < nodes)
IsEventWithin nodes lines (Refuse from node) = (from < nodes) × (node < nodes)
IsEventWithin nodes lines (Reply node) = node < nodes
IsEventWithin nodes lines (Accept from node) = (from < nodes) × (node < nodes)

abbrev pub AreEventsWithin : ℕ → ℕ → List Event → Type 0
AreEventsWithin nodes lines events = All (IsEventWithin nodes lines) events

-- each number is within its limits, and there are not too many events
pub record IsSchedule (s : ScheduleValue) : Type 0 where
  pub size : AreWithinLimits s.nodes s.lines s.slots
  pub within : AreEventsWithin s.nodes s.lines s.events
  pub few : length s.events ≤ MAX_EVENTS

-- the schedule with one more event at its end
abbrev pub with_event : ScheduleValue → Event → ScheduleValue
with_event s event = record s { events = s.events ++ event ∷ [] }

-- why an event is not added
abbrev pub EventRefusal : ScheduleValue → Event → PushFault → Type 0
EventRefusal s event fault =
    Refusal (IsEventWithin s.nodes s.lines event) (MAX_EVENTS ≤ length s.events) (length s.events < MAX_EVENTS) fault

-- ---- the text

-- the word for what happens
abbrev pub event_word : Event → List ℕ
event_word event = word_of_kind (kind_of event)

-- the node that stands behind the word: the sender of a packet that is taken, else the node whose event it is
abbrev pub first_node : Event → ℕ
first_node (Issue node op) = node
first_node (Perform node line) = node
first_node (Ask node line kind) = node
first_node (Serve from node) = from
first_node (Refuse from node) = from
first_node (Reply node) = node
first_node (Accept from node) = from

-- what stands behind the first node
abbrev pub event_details : Event → List ℕ
event_details (Issue node op) = codes " " ++ operation op
event_details (Perform node line) = field line
event_details (Ask node line kind) = field line ++ (codes " " ++ kind_word kind)
event_details (Serve from node) = field node
event_details (Refuse from node) = field node
event_details (Reply node) = []
event_details (Accept from node) = field node

-- `issue n OP`, `perform n L`, `ask n L KIND`, `serve j n`, `refuse j n`, `reply n` or `accept j n`, and the line feed
unfoldable pub event_line : Event → List ℕ
event_line event = event_word event ++ (field (first_node event) ++ (event_details event ++ 10 ∷ []))

abbrev pub event_lines : List Event → List ℕ
event_lines events = flat_map event_line events

-- the line of the size, then a line for each event
abbrev pub schedule_text : ScheduleValue → List ℕ
schedule_text s = machine_line s.nodes s.lines s.slots ++ event_lines s.events
