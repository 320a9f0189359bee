-- The faults of a schedule's text.
use Rattle.std.specs.Prelude.{◌≡◌, ℕ, ◌+◌, ◌<◌, ◌≤◌, List, ◌++◌, length}
use Rattle.sci_words.specs.declared.{limits.TheConstants.{MAX_EVENTS}, event.Event.{Event}}
use Rattle.sci_text.specs.{declared.fault.TextFaultKind.{TextFaultKind}, FirstFault.{Says, LineFault, IsFirstFault}}
use Rattle.sci_text.specs.ScriptFault.{MachineFault}
use Rattle.sci_text.specs.Schedule.{ScheduleValue, IsSchedule, IsEventWithin, event_line, schedule_text}

-- What is wrong with the line at the front of bytes, after the lines that say the schedule so far: it is no
-- line of an event, whatever the numbers; or a number is out of range; or there are as many events as there may be.
abbrev pub EventFault : ScheduleValue → List ℕ → TextFaultKind → Type 0
EventFault s bytes kind = LineFault {X = Event} (λ event. Says bytes (event_line event)) (IsEventWithin s.nodes s.lines) (λ event. MAX_EVENTS ≤ length s.events)
    kind

-- the input begins with the text of a schedule
abbrev pub BeginsSchedule : List ℕ → ScheduleValue → List ℕ → Type 0
BeginsSchedule input s rest = IsSchedule s × (input ≡ schedule_text s ++ rest)

-- the first line of a schedule that has a fault, and the fault
abbrev pub IsScheduleFault : List ℕ → ℕ → TextFaultKind → Type 0
IsScheduleFault input line kind = IsFirstFault MachineFault BeginsSchedule (λ s rest. 0 < length rest) (λ s. length s.events + 1) EventFault input line kind
