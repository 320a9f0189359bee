-- What `check` writes for its input.
use Rattle.std.specs.Prelude.{◌≡◌, ℕ, ◌<◌, ◌≤◌, ◌⊎◌, ◌==◌, Bool, List, [], ◌∷◌, ◌++◌, length, codes, Option, if◌then◌else◌}
use Rattle.sci_words.specs.declared.stamped.Stamped.{Stamped}
use Rattle.sci_history.specs.declared.entry.Entry.{Entry}
use Rattle.sci_text.specs.declared.fault.TextFaultKind.{TextFaultKind, TheVariants.{Syntax, Range}}
use Rattle.sci_text.specs.{FirstFault.{IsTold}, LogFault.{IsLogFault}, LogValue.{IsLogs, entry_count}, Number.{number}}
use Rattle.sci_text.specs.{Schedule.{ScheduleValue, IsSchedule, schedule_text}, ScheduleFault.{IsScheduleFault}}
use Rattle.sci_text.specs.{Script.{ScriptValue, IsScript, script_text}, ScriptFault.{IsScriptFault}}
use Rattle.sci_command.specs.declared.{outcome.Outcome.{Outcome}, text_lines.TextKind.{TextKind, TheVariants.{Script, Schedule, Log}}}
use Rattle.sci_command.specs.Answer.{IsDoneBy}
use Rattle.sci_reports.specs.declared.checking.TextSize.{TextSize}

-- ---- what a text can be

abbrev pub IsScriptText : List ℕ → ScriptValue → Type 0
IsScriptText input script = IsScript script × (input ≡ script_text script)

abbrev pub IsScheduleText : List ℕ → ScheduleValue → Type 0
IsScheduleText input schedule = IsSchedule schedule × (input ≡ schedule_text schedule)

-- the number of nodes, their logs, and the last contents
abbrev pub LogsValue : Type 0
LogsValue = ℕ × List (List Entry) × List Stamped

abbrev pub IsLogText : List ℕ → LogsValue → Type 0
IsLogText input value = IsLogs input value.0 value.1 value.2

-- nodes, lines, and operations, events or entries
abbrev pub script_size : ScriptValue → TextSize
script_size script = record { nodes = script.nodes; lines = script.lines; count = length script.operations }

abbrev pub schedule_size : ScheduleValue → TextSize
schedule_size schedule = record { nodes = schedule.nodes; lines = schedule.lines; count = length schedule.events }

abbrev pub log_size : LogsValue → TextSize
log_size value = record { nodes = value.0; lines = length value.2; count = entry_count value.1 }

-- ---- the line that says so

-- `1 node`, `2 nodes`
unfoldable pub counted : ℕ → List ℕ → List ℕ → List ℕ
counted n one many = number n ++ (32 ∷ [] ++ (if n == 1 then one else many))

unfoldable pub kind_name : TextKind → List ℕ
kind_name Script = codes "script: "
kind_name Schedule = codes "schedule: "
kind_name Log = codes "log: "

unfoldable pub one_name : TextKind → List ℕ
one_name Script = codes "operation"
one_name Schedule = codes "event"
one_name Log = codes "entry"

unfoldable pub many_name : TextKind → List ℕ
many_name Script = codes "operations"
many_name Schedule = codes "events"
many_name Log = codes "entries"

-- `script: 2 nodes, 1 line, 7 operations`, and the line feed
unfoldable pub size_text : TextKind → TextSize → List ℕ
size_text kind size = kind_name kind
    ++ (counted size.nodes (codes "node") (codes "nodes")
    ++ (codes ", " ++ (counted size.lines (codes "line") (codes "lines") ++ (codes ", " ++ (counted size.count (one_name kind) (many_name kind) ++ 10 ∷ [])))))

-- ---- the answer to a text

-- the text is of this kind, and its size is said; or it isn't, and nothing is
abbrev pub IsSaid : {V : Type 0} → TextKind → (V → Type 0) → (V → TextSize) → List ℕ → Type 0
IsSaid kind is_text size said = ((value : _) × is_text value × (said ≡ size_text kind (size value))) ⊎ (((value : _) → is_text value → ⊥) × (said ≡ []))

-- Of each kind that the text is, its size is said. It is of one kind at least.
pub record IsKnown (input text : List ℕ) : Type 0 where
  pub script : List ℕ
  pub schedule : List ℕ
  pub log : List ℕ
  pub is_script : IsSaid Script (IsScriptText input) script_size script
  pub is_schedule : IsSaid Schedule (IsScheduleText input) schedule_size schedule
  pub is_log : IsSaid Log (IsLogText input) log_size log
  pub said : text ≡ script ++ (schedule ++ log)
  pub some : text ≡ [] → ⊥

-- ---- the fault of a text that is of no kind

-- how far a line of text was read before its fault was found: its form first, then its numbers, then whether there is room
abbrev pub depth : TextFaultKind → ℕ
depth Syntax = 0
depth Range = 1
depth kind = 2

-- one fault isn't found after another
abbrev pub IsNoLater : ℕ → TextFaultKind → ℕ → TextFaultKind → Type 0
IsNoLater line kind other other_kind = (line < other) ⊎ ((line ≡ other) × (depth kind ≤ depth other_kind))

-- read as a text of some kind, the bytes have a fault, and not after this one
abbrev pub IsFaultyBy : (ℕ → TextFaultKind → Type 0) → ℕ → TextFaultKind → Type 0
IsFaultyBy is_first line kind = (before : ℕ) × (fault : TextFaultKind) × is_first before fault × IsNoLater before fault line kind

-- the last of the three faults that the bytes have as a script, as a schedule and as a log
pub record IsLastFault (input : List ℕ) (line : ℕ) (kind : TextFaultKind) : Type 0 where
  pub script : IsFaultyBy (IsScriptFault input) line kind
  pub schedule : IsFaultyBy (IsScheduleFault input) line kind
  pub log : IsFaultyBy (IsLogFault input) line kind
  pub reached : IsScriptFault input line kind ⊎ IsScheduleFault input line kind ⊎ IsLogFault input line kind

-- what `check` writes, and how it ends, for the bytes of a reader, which has failed or not
abbrev pub IsCheckAnswer : Option (List ℕ) → Bool → List ℕ → Outcome → Type 0
IsCheckAnswer = IsDoneBy IsKnown (IsTold IsLastFault)
