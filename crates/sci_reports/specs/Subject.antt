-- What a note of a line of memory is about.
use Rattle.std.specs.Prelude.{◌≡◌, ℕ, ◌+◌, List, length}
use Rattle.sci_words.specs.declared.stamped.Stamped.{Stamped}
use Rattle.sci_history.specs.{declared.entry.Entry.{Entry}, Memory.{stamped_at}}
use Rattle.sci_reports.specs.{declared.finding.Subject.{Subject}, EntryLines.{numbered_on, numberings}}

-- the line's entries with their lines of the text, its last contents and the line that has them, which are just before all entries
pub record IsSubject (before : ℕ) (logs : List (List Entry)) (last : List Stamped) (line : ℕ) (subject : Subject) : Type 0 where
  pub is : subject.line ≡ line
  pub entries : numberings subject.entries.items ≡ numbered_on line before logs
  pub contents : subject.last ≡ stamped_at last line
  pub stand : subject.last_line + length last ≡ before + 1 + line
