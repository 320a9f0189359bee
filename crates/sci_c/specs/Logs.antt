-- What the calls for logs answer.
use Rattle.std.specs.Prelude.{◌≡◌, ℕ, ◌^◌, ◌<◌, ◌≤◌, ◌⊎◌, List, length, slice_get, Some, None}
use Rattle.sci_words.specs.declared.limits.TheConstants.{MAX_OPERATIONS}
use Rattle.sci_history.specs.declared.{entry.Entry.{Entry}, verdict.Verdict.{Verdict}}
use Rattle.sci_history.specs.{Memory.{stamped_at}, Placed.{log_of}}
use Rattle.sci_text.specs.{Log.{log_text}, LogValue.{AreLogs, IsLogs}}
use Rattle.sci_c_values.specs.declared.{entry.SciEntry.{SciEntry}, stamped.SciStamped.{SciStamped}}
use Rattle.sci_c_values.specs.declared.verdict.SciVerdict.{SciVerdict}
use Rattle.sci_c_values.specs.{Entry.{SaysEntry, entry_struct}, Stamped.{stamped_of, stamped_struct}}
use Rattle.sci_c_values.specs.Verdict.{verdict_struct}
use Rattle.sci_windows.specs.CutOff.{IsVerdictCutOff}
use Rattle.sci_c.specs.{Begun.{IsVerdictOf}, Journal.{JournalOf, FitsJournal, first_of, with_entry, with_first, with_last}, Written.{StandOver}}

-- the entry that the struct says ends its node's log
pub record IsPushed (c : SciEntry) (before after : JournalOf) : Type 0 where
  pub entry : Entry
  pub says : SaysEntry c entry
  pub fits : FitsJournal before c
  pub ends : after ≡ with_entry before entry

-- the log of the node has as many entries as it may have
abbrev pub IsFull : SciEntry → JournalOf → Type 0
IsFull c journal = MAX_OPERATIONS ≤ length (log_of journal.logs c.node)

-- the line has the contents that the struct says
pub record IsLastSet (line : ℕ) (c : SciStamped) (before after : JournalOf) : Type 0 where
  pub here : line < length before.last
  pub set : after ≡ with_last before line (stamped_of c)

-- the line begins with the contents that the struct says
pub record IsFirstSet (line : ℕ) (c : SciStamped) (before after : JournalOf) : Type 0 where
  pub here : line < length before.last
  pub set : after ≡ with_first before line (stamped_of c)

-- there is no such line, or the version is above 2^63
abbrev pub IsNoFirst : ℕ → SciStamped → JournalOf → Type 0
IsNoFirst line c journal = (length journal.last ≤ line) ⊎ (2 ^ 63 < c.version)

-- the contents with which a line begins
pub record IsFirstOf (line : ℕ) (c : SciStamped) (journal : JournalOf) : Type 0 where
  pub here : line < length journal.last
  pub contents : c ≡ stamped_struct (stamped_at (first_of journal) line)

-- the contents of a line
pub record IsLastOf (line : ℕ) (c : SciStamped) (journal : JournalOf) : Type 0 where
  pub here : line < length journal.last
  pub contents : c ≡ stamped_struct (stamped_at journal.last line)

-- the entry at a place of a node's log
pub record IsEntryAt (node place : ℕ) (c : SciEntry) (journal : JournalOf) : Type 0 where
  pub entry : Entry
  pub found : slice_get (log_of journal.logs node) place ≡ Some entry
  pub struct_is : c ≡ entry_struct entry

-- what an audit finds
pub record IsFound (c : SciVerdict) (journal : JournalOf) : Type 0 where
  pub verdict : Verdict
  pub is_verdict : IsVerdictOf journal verdict
  pub struct_is : c ≡ verdict_struct verdict

-- what an audit finds whatever the last contents are
pub record IsFoundCutOff (c : SciVerdict) (journal : JournalOf) : Type 0 where
  pub verdict : Verdict
  pub is_verdict : IsVerdictCutOff journal.logs (first_of journal) verdict
  pub struct_is : c ≡ verdict_struct verdict

-- the bytes are a text of the logs, which begin with zeros and have each number within the limits
pub record AreRead (text : List ℕ) (journal : JournalOf) : Type 0 where
  pub zeros : journal.first ≡ None
  pub text_is : IsLogs text journal.nodes journal.logs journal.last
  pub good : AreLogs journal.nodes journal.logs journal.last

abbrev pub text_of : JournalOf → List ℕ
text_of journal = log_text journal.nodes journal.logs journal.last

-- the text of the logs stands over the first bytes, and is read back if the logs are within the limits of a text
pub record AreWritten (old new : List ℕ) (used : ℕ) (journal : JournalOf) : Type 0 where
  pub zeros : journal.first ≡ None
  pub stand : StandOver (text_of journal) old new used
  pub text_is : AreLogs journal.nodes journal.logs journal.last → IsLogs (text_of journal) journal.nodes journal.logs journal.last

-- the text has more bytes than there is room
pub record AreTooLong (old : List ℕ) (used : ℕ) (journal : JournalOf) : Type 0 where
  pub length_is : used ≡ length (text_of journal)
  pub more : length old < used
