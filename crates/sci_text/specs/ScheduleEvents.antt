-- The events of a schedule's text, which are read one after another.
use Rattle.std.specs.Prelude.{◌≡◌, ℕ, ◌<◌, List, [], ◌∷◌, ◌++◌, length, Option, Some, None}
use Rattle.sci_words.specs.declared.{extent.Extent.{Extent}, event.Event.{Event}}
use Rattle.sci_text.specs.Schedule.{ScheduleValue, IsSchedule, schedule_text}

-- a text that is being read: the size of its first line, the bytes that are left, and how many events stand before them
pub record EventsOf : Type 0 where
  pub extent : Extent
  pub text : List ℕ
  pub rest : List ℕ
  pub count : ℕ

abbrev pub schedule_with : Extent → List Event → ScheduleValue
schedule_with extent events = record { nodes = extent.nodes; lines = extent.lines; slots = extent.slots; events = events }

-- these events stand before the bytes that are left
pub record AreBefore (events : List Event) (e : EventsOf) : Type 0 where
  pub good : IsSchedule (schedule_with e.extent events)
  pub parts : e.text ≡ schedule_text (schedule_with e.extent events) ++ e.rest
  pub count : e.count ≡ length events

-- what comes next: an event, which then stands behind those before it; or nothing, if no bytes are left
abbrev pub IsNext : EventsOf → EventsOf → Option Event → Type 0
IsNext old new None = (old.rest ≡ []) × (new ≡ old)
IsNext old new (Some event) =
    (length new.rest < length old.rest) × ((events : List Event) → AreBefore events old → AreBefore (events ++ event ∷ []) new)
