-- What `replay` writes for its input.
use Rattle.std.specs.Prelude.{◌≡◌, ℕ, Bool, List, Option}
use Rattle.sci_words.specs.declared.limits.TheConstants.{MAX_OPERATIONS}
use Rattle.sci_history.specs.{Lawful.{Lawful}, Sequential.{IsSequentiallyConsistent}}
use Rattle.sci_core.specs.{declared.dead.DeadEvents.{DeadEvents}, Size.{Size}, Core.{Core, run}, Outcome.{logs_of}, Sharing.{last_of}}
use Rattle.sci_text.specs.{Schedule.{ScheduleValue, IsSchedule, schedule_text}, FirstFault.{IsTold}}
use Rattle.sci_text.specs.{ScheduleFault.{IsScheduleFault}, Log.{log_text}, LogValue.{IsLogs}}
use Rattle.sci_command.specs.{Answer.{IsDoneBy}, Beginning.{before, dead_of}, declared.outcome.Outcome.{Outcome}}

-- a machine of the schedule's size, whose nodes may each issue 65,536 operations
abbrev pub replay_size : ScheduleValue → Size
replay_size s = record { nodes = s.nodes; lines = s.lines; slots = s.slots; limit = MAX_OPERATIONS }

-- where the schedule leads it
abbrev pub replayed : ScheduleValue → Core
replayed s = run (replay_size s) s.events

-- the bytes are the text of a schedule, which leads a machine here, and of which these events aren't enabled
pub record IsWhereLed (input : List ℕ) (machine : Core) (dead : Option DeadEvents) : Type 0 where
  pub schedule : ScheduleValue
  pub good : IsSchedule schedule
  pub read : input ≡ schedule_text schedule
  pub led : machine ≡ replayed schedule
  pub are : dead ≡ dead_of schedule

-- the text of the logs and the last contents there
abbrev pub replay_text : ScheduleValue → List ℕ
replay_text s = log_text s.nodes (logs_of (replayed s)) (last_of (replayed s))

-- the input is the text of a schedule, and the text of where it leads is written; it says logs that are
-- lawful and sequentially consistent, and no others
pub record IsReplayOf (input text : List ℕ) : Type 0 where
  pub schedule : ScheduleValue
  pub good : IsSchedule schedule
  pub read : input ≡ schedule_text schedule
  pub written : text ≡ replay_text schedule
  pub says : IsLogs text schedule.nodes (logs_of (replayed schedule)) (last_of (replayed schedule))
  pub lawful : Lawful (logs_of (replayed schedule)) (last_of (replayed schedule))
  pub consistent : IsSequentiallyConsistent (logs_of (replayed schedule)) (last_of (replayed schedule))

-- what is written, and how the command ends, for the bytes of a reader, which has failed or not
abbrev pub IsReplayAnswer : Option (List ℕ) → Bool → List ℕ → Outcome → Type 0
IsReplayAnswer = IsDoneBy IsReplayOf (IsTold IsScheduleFault)
