-- A log that was read from its text.
use Rattle.std.specs.Prelude.{ℕ, List, length}
use Rattle.sci_words.specs.declared.stamped.Stamped.{Stamped}
use Rattle.sci_history.specs.declared.entry.Entry.{Entry}
use Rattle.sci_text.specs.LogValue.{IsLogs}
use Rattle.sci_reports.specs.{declared.read_log.ReadLog.{ReadLog}, EntryLines.{IsBeforeEntries}}

-- the text is of these logs and last contents, and has this many lines before their entries
pub record IsReadLog (text : List ℕ) (log : ReadLog) : Type 0 where
  pub read : IsLogs text log.nodes log.logs log.last.value
  pub places : IsBeforeEntries text (length log.last.value) log.before

-- the input is the text of logs with last contents, and this holds of the lines before their entries, of the logs and of the last contents
pub record IsOfLogs (Holds : ℕ → List (List Entry) → List Stamped → Type 0) (input : List ℕ) : Type 0 where
  pub nodes : ℕ
  pub logs : List (List Entry)
  pub last : List Stamped
  pub read : IsLogs input nodes logs last
  pub before : ℕ
  pub places : IsBeforeEntries input (length last) before
  pub found : Holds before logs last
