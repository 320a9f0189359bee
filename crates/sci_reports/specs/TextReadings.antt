-- What comes of reading a text as one kind after another. No public contract cites these words.
use Rattle.std.specs.Prelude.{◌≡◌, ℕ, List, [], ◌++◌}
use Rattle.sci_text.specs.{declared.fault.{TextFault.{TextFault}, TextFaultKind.{TextFaultKind}}, LogFault.{IsLogFault}}
use Rattle.sci_text.specs.{ScheduleFault.{IsScheduleFault}, ScriptFault.{IsScriptFault}}
use Rattle.sci_command.specs.declared.text_lines.TextKind.{TextKind, TheVariants.{Script, Schedule, Log}}
use Rattle.sci_reports.specs.declared.checking.{TextSize.{TextSize}, Reading.{Reading, TheVariants.{Size, Fault}}}
use Rattle.sci_reports.specs.declared.checking.Readings.{Readings}
use Rattle.sci_reports.specs.CheckAnswer.{IsLogText, IsScheduleText, IsScriptText, log_size, schedule_size, script_size, size_text}

-- the size of what the text is, or its first fault
abbrev pub IsReading : {V : Type 0} → (V → Type 0) → (V → TextSize) → (ℕ → TextFaultKind → Type 0) → Reading → Type 0
IsReading is_text size is_first (Size found) = (value : _) × is_text value × (found ≡ size value)
IsReading is_text size is_first (Fault fault) = is_first fault.line fault.kind

pub record AreReadings (text : List ℕ) (readings : Readings) : Type 0 where
  pub script : IsReading (IsScriptText text) script_size (IsScriptFault text) readings.script
  pub schedule : IsReading (IsScheduleText text) schedule_size (IsScheduleFault text) readings.schedule
  pub log : IsReading (IsLogText text) log_size (IsLogFault text) readings.log

-- what is written of a reading
abbrev pub said_of : TextKind → Reading → List ℕ
said_of kind (Size size) = size_text kind size
said_of kind (Fault fault) = []

-- what is written of the readings of a text
abbrev pub known_text : Readings → List ℕ
known_text readings = said_of Script readings.script ++ (said_of Schedule readings.schedule ++ said_of Log readings.log)

-- each reading is a fault
pub record AreFaults (readings : Readings) (script schedule log : TextFault) : Type 0 where
  pub script_is : readings.script ≡ Fault script
  pub schedule_is : readings.schedule ≡ Fault schedule
  pub log_is : readings.log ≡ Fault log
