-- The line of memory that a command of a schedule is asked for.
use Rattle.std.specs.Prelude.{◌≡◌, ◌<◌, ◌==◌, ◌⊎◌, ℕ, Bool, true, false, List, Option, Some, None}
use Rattle.sci_text.specs.{declared.fault.TextFaultKind.{TextFaultKind, TheVariants.{Range}}, FirstFault.{IsTold}}
use Rattle.sci_text.specs.{Schedule.{ScheduleValue, IsSchedule, schedule_text}, ScheduleFault.{IsScheduleFault}}
use Rattle.sci_command.specs.Input.{IsReadAs}

-- the machine of a schedule has the line, if one is asked for
abbrev pub HasLine : Option ℕ → ScheduleValue → Type 0
HasLine None schedule = Unit {0}
HasLine (Some line) schedule = line < schedule.lines

-- the input is the text of a schedule whose machine doesn't have the line
pub record LacksLine (asked : Option ℕ) (input : List ℕ) : Type 0 where
  pub schedule : ScheduleValue
  pub good : IsSchedule schedule
  pub read : input ≡ schedule_text schedule
  pub lacks : HasLine asked schedule → ⊥

-- why there is no answer: the input has a fault, or its machine doesn't have the line
abbrev pub IsAskedFault : Option ℕ → TextFaultKind → Option (List ℕ) → Bool → ℕ → Type 0
IsAskedFault asked kind input failed at = IsTold IsScheduleFault kind input failed at ⊎ ((kind ≡ Range) × (at ≡ 0) × IsReadAs input failed (LacksLine asked))

-- whether what is about a line, or about none, is asked for
abbrev pub is_asked : Option ℕ → Option ℕ → Bool
is_asked None about = true
is_asked (Some line) None = false
is_asked (Some line) (Some about) = about == line
