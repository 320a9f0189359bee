-- The schedule of a run of a script.
use Rattle.std.specs.Prelude.{◌≡◌, ◌<◌, ℕ, Bool, true, List, [], length, take}
use Rattle.sci_words.specs.declared.stamped.Stamped.{Stamped}
use Rattle.sci_history.specs.{declared.entry.Entry.{Entry}, Sequential.{AreInProgramOrder}}
use Rattle.sci_text.specs.{Script.{ScriptValue}, Schedule.{IsSchedule, ScheduleValue}}
use Rattle.sci_core.specs.{Core.{AreEnabled, run}, Outcome.{logs_of}, Sharing.{last_of}}
use Rattle.sci_drive.specs.declared.driver.Issuing.{Issuing, TheVariants.{InOrder}}
use Rattle.sci_text.specs.Script.{operations_of}
use Rattle.sci_drive.specs.ScriptLogs.{HaveFrontLogsOf, HaveLogsOf, HaveWholeLogsOf, size_for}
use Rattle.sci_runs.specs.Recorded.{IsOfSize, issues_at}

-- the logs of the script's machine behind a schedule
abbrev pub logs_behind : ScriptValue → ScheduleValue → List (List Entry)
logs_behind script schedule = logs_of (run (size_for script) schedule.events)

-- and the last contents
abbrev pub last_behind : ScriptValue → ScheduleValue → List Stamped
last_behind script schedule = last_of (run (size_for script) schedule.events)

-- A schedule of the script's machine, in which each event is enabled when it comes. Each node issues the first of its
-- operations, in their order; each entry of its log has the operation that its serial names, and no serial stands twice. Done,
-- each operation of the script has just one entry. If operations are issued in order, each node's log stands in the order of
-- its script, with the first of its operations.
pub record IsRunOf (script : ScriptValue) (issuing : Issuing) (done : Bool) (schedule : ScheduleValue) : Type 0 where
  pub good : IsSchedule schedule
  pub sized : IsOfSize (size_for script) schedule
  pub enabled : AreEnabled (size_for script) [] schedule.events
  pub issued : (node : ℕ) → node < script.nodes
      → issues_at node schedule.events ≡ take (length (issues_at node schedule.events)) (operations_of node script.operations)
  pub named : HaveLogsOf script (logs_behind script schedule)
  pub whole : done ≡ true → HaveWholeLogsOf script (logs_behind script schedule)
  pub ordered : issuing ≡ InOrder → AreInProgramOrder (logs_behind script schedule)
  pub front : issuing ≡ InOrder → HaveFrontLogsOf script (logs_behind script schedule)
