-- What `random` writes.
use Rattle.std.specs.Prelude.{◌≡◌, ℕ, ◌≤◌, List, length, Option, IfSome, unwrap_or}
use Rattle.sci_words.specs.{declared.limits.TheConstants.{MAX_EVENTS, MAX_OPERATIONS}, Extent.{AreWithinLimits}}
use Rattle.sci_random.specs.Drawing.{seeded}
use Rattle.sci_core.specs.{Core.{opening}, Size.{Size}}
use Rattle.sci_text.specs.declared.fault.TextFaultKind.{TextFaultKind}
use Rattle.sci_text.specs.Schedule.{ScheduleValue, IsSchedule, schedule_text}
use Rattle.sci_command.specs.declared.outcome.Outcome.{Outcome, TheVariants.{Done, Unlawful, Refused}}
use Rattle.sci_command.specs.Refusal.{IsRefusalBy}
use Rattle.sci_random_schedules.specs.{declared.random.Walk.{Walk}, Walking.{Walks}}
use Rattle.sci_text.specs.declared.fault.TextFaultKind.TheVariants as kinds

-- each number is within its limits, and that of the events in a hundred that may be dead
pub record IsWalk (walk : Walk) (dead : Option ℕ) : Type 0 where
  pub size : AreWithinLimits walk.nodes walk.lines walk.slots
  pub few : walk.events ≤ MAX_EVENTS
  pub share : IfSome dead (λ share. share ≤ 100)

-- why there is no schedule: a number is out of its limits, or else memory was refused
abbrev pub IsWalkFault : Walk → Option ℕ → TextFaultKind → ℕ → Type 0
IsWalkFault walk dead kinds.Range line = (line ≡ 0) × (IsWalk walk dead → ⊥)
IsWalkFault walk dead kinds.Memory line = (line ≡ 0) × IsWalk walk dead
IsWalkFault walk dead kinds.Syntax line = ⊥
IsWalkFault walk dead kinds.TooMany line = ⊥
IsWalkFault walk dead kinds.Read line = ⊥
IsWalkFault walk dead kinds.Write line = ⊥

-- a schedule of a machine of just this size, with just this many events, drawn from a seed; this many of a hundred are any events
pub record IsWalked (size : Size) (seed share count : ℕ) (schedule : ScheduleValue) : Type 0 where
  pub good : IsSchedule schedule
  pub nodes_are : schedule.nodes ≡ size.nodes
  pub lines_are : schedule.lines ≡ size.lines
  pub slots_are : schedule.slots ≡ size.slots
  pub counted : length schedule.events ≡ count
  pub drawn : Walks share (opening size) (seeded seed) schedule.events

-- the machine of a walk
abbrev pub size_for : Walk → Size
size_for walk = record { nodes = walk.nodes; lines = walk.lines; slots = walk.slots; limit = MAX_OPERATIONS }

-- the text of such a schedule; no events are any events if it isn't said how many
pub record IsRandomText (walk : Walk) (dead : Option ℕ) (text : List ℕ) : Type 0 where
  pub schedule : ScheduleValue
  pub walked : IsWalked (size_for walk) walk.seed (unwrap_or dead 0) walk.events schedule
  pub written : text ≡ schedule_text schedule

-- what `random` writes, and how it ends
abbrev pub IsRandomAnswer : Walk → Option ℕ → List ℕ → Outcome → Type 0
IsRandomAnswer walk dead text Done = IsWalk walk dead × IsRandomText walk dead text
IsRandomAnswer walk dead text Refused = IsRefusalBy (IsWalkFault walk dead) text
IsRandomAnswer walk dead text Unlawful = ⊥
