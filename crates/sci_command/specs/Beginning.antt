-- The machine with which a schedule begins, and the events of the schedule that aren't enabled.
use Rattle.std.specs.Prelude.{◌≡◌, ℕ, Bool, List, Option, Some, None}
use Rattle.sci_words.specs.declared.limits.TheConstants.{MAX_OPERATIONS}
use Rattle.sci_core.specs.{declared.dead.DeadEvents.{DeadEvents}, Core.{Core, opening}, Dead.{dead_events, summary}}
use Rattle.sci_text.specs.Schedule.{ScheduleValue, IsSchedule, schedule_text}
use Rattle.sci_command.specs.{declared.refusal.Refusal.{Refusal}, Input.{IsReadAs}}

-- a machine of the schedule's size, whose nodes may each issue 65,536 operations, before the schedule
abbrev pub before : ScheduleValue → Core
before s = opening (record { nodes = s.nodes; lines = s.lines; slots = s.slots; limit = MAX_OPERATIONS })

-- the events of the schedule that aren't enabled when they come
abbrev pub dead_of : ScheduleValue → Option DeadEvents
dead_of s = summary (dead_events (before s) 0 s.events)

-- the bytes are the text of a schedule, and these of its events aren't enabled
pub record AreDeadIn (bytes : List ℕ) (dead : Option DeadEvents) : Type 0 where
  pub schedule : ScheduleValue
  pub good : IsSchedule schedule
  pub read : bytes ≡ schedule_text schedule
  pub are : dead ≡ dead_of schedule

-- what standard error says of them for the bytes of a reader, which has failed or not: nothing if the input is refused
abbrev pub AreDeadBeside : Option (List ℕ) → Bool → Option Refusal → Option DeadEvents → Type 0
AreDeadBeside known failed None dead = IsReadAs known failed (λ bytes. AreDeadIn bytes dead)
AreDeadBeside known failed (Some refusal) dead = dead ≡ None
