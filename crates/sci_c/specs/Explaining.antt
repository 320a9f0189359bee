-- What the calls answer that say what is wrong with logs.
use Rattle.std.specs.Prelude.{◌≡◌, ◌<◌, ℕ, List, Option, Some, None, false, length}
use Rattle.sci_command.specs.declared.outcome.Outcome.{Outcome}
use Rattle.sci_history.specs.declared.entry.Entry.{Entry}
use Rattle.sci_reports.specs.{declared.wanted.Wanted.{Wanted}, ExplainAnswer.{IsExplanationOf}, Wanted.{IsWantedOf}}
use Rattle.sci_c_values.specs.{declared.entry.SciEntry.{SciEntry}, Entry.{entry_struct}}
use Rattle.sci_c.specs.{Journal.{JournalOf}, Logs.{text_of}, Written.{StandOver}}

-- what `explain` writes of the text of the logs, which begin with zeros, stands over the first bytes
pub record IsExplainedOver (old new : List ℕ) (used : ℕ) (journal : JournalOf) : Type 0 where
  pub zeros : journal.first ≡ None
  pub words : List ℕ
  pub outcome : Outcome
  pub explains : IsExplanationOf false (text_of journal) words outcome
  pub stand : StandOver words old new used

-- it has more bytes than there is room
pub record IsLongerExplanation (old : List ℕ) (used : ℕ) (journal : JournalOf) : Type 0 where
  pub words : List ℕ
  pub outcome : Outcome
  pub explains : IsExplanationOf false (text_of journal) words outcome
  pub length_is : used ≡ length words
  pub more : length old < used

-- the entry that made a word, if one did, is written
abbrev pub IsMakerIn : Option Entry → ℕ → (old new : SciEntry) → Type 0
IsMakerIn None has old new = (has ≡ 0) × (new ≡ old)
IsMakerIn (Some maker) has old new = (has ≡ 1) × (new ≡ entry_struct maker)

-- the word that one memory has where an audit of the logs, which begin with zeros, finds a wrong reply, and the entry that made it
pub record IsWantedIn (word has : ℕ) (old new : SciEntry) (journal : JournalOf) : Type 0 where
  pub zeros : journal.first ≡ None
  pub wanted : Wanted
  pub wants : IsWantedOf (text_of journal) (Some wanted)
  pub word_is : word ≡ wanted.word
  pub maker : IsMakerIn wanted.maker has old new

-- an audit of them finds no wrong reply first
pub record IsNothingWanted (journal : JournalOf) : Type 0 where
  pub zeros : journal.first ≡ None
  pub wants : IsWantedOf (text_of journal) None
