-- The word that a wrong reply should have had, and who made it.
use Rattle.std.specs.Prelude.{◌≡◌, ℕ, List, length, Option, Some, None, option_map}
use Rattle.sci_words.specs.declared.stamped.Stamped.{Stamped}
use Rattle.sci_history.specs.declared.{entry.Entry.{Entry}}
use Rattle.sci_history.specs.declared.verdict.FaultKind.TheVariants.{VersionTwice, VersionMissing, WrongReply, OutOfOrder, LastDiffers}
use Rattle.sci_history.specs.{declared.verdict.Verdict.{Verdict}, Audit.{IsFault, IsVerdict}}
use Rattle.sci_history.specs.declared.verdict.Verdict.TheVariants.{Lawful, Fault}
use Rattle.sci_reports.specs.declared.{faulty.{Cause.{Cause}, FaultyEntry.{FaultyEntry}}, finding.Finding.{Finding}, wanted.Wanted.{Wanted}}
use Rattle.sci_reports.specs.declared.faulty.Cause.TheVariants.{MadeBefore, FewMakers, OtherWord, SerialAfter, PlacedAfter}
use Rattle.sci_reports.specs.{EntryLines.{entry_of}, Finding.{IsFinding}, ReadLog.{IsOfLogs}, Subject.{IsSubject}}

-- by the cause of a fault: another word, and the entry that made it
abbrev pub wanted_by_cause : Cause → Option Wanted
wanted_by_cause (MadeBefore earlier) = None
wanted_by_cause (FewMakers makers least) = None
wanted_by_cause (OtherWord word maker) = Some (record { word = word; maker = option_map entry_of maker })
wanted_by_cause (SerialAfter earlier) = None
wanted_by_cause (PlacedAfter earlier) = None

abbrev pub wanted_by : Option FaultyEntry → Option Wanted
wanted_by None = None
wanted_by (Some found) = wanted_by_cause found.cause

-- the fault of an audit is a wrong reply, whose cause is this word and its maker; this many lines of text come before the entries
pub record IsWantedWord (before : ℕ) (logs : List (List Entry)) (last : List Stamped) (wanted : Wanted) : Type 0 where
  pub line : ℕ
  pub named : Option (ℕ × ℕ)
  pub fault : IsFault logs last line WrongReply named
  pub finding : Finding
  pub subject : IsSubject before logs last line finding.subject
  pub is : IsFinding (record { kind = WrongReply; at = named }) finding
  pub wants : wanted_by finding.found ≡ Some wanted

-- an audit finds no wrong reply first
abbrev pub IsNoWrongReply : Verdict → Type 0
IsNoWrongReply Lawful = Unit {0}
IsNoWrongReply (Fault line VersionTwice at) = Unit {0}
IsNoWrongReply (Fault line VersionMissing at) = Unit {0}
IsNoWrongReply (Fault line WrongReply at) = ⊥
IsNoWrongReply (Fault line OutOfOrder at) = Unit {0}
IsNoWrongReply (Fault line LastDiffers at) = Unit {0}

pub record HasNoWrongReply (logs : List (List Entry)) (last : List Stamped) : Type 0 where
  pub verdict : Verdict
  pub is : IsVerdict logs last verdict
  pub other : IsNoWrongReply verdict

-- what is wanted of logs, if something is
abbrev pub IsWanted : ℕ → List (List Entry) → List Stamped → Option Wanted → Type 0
IsWanted before logs last None = HasNoWrongReply logs last
IsWanted before logs last (Some wanted) = IsWantedWord before logs last wanted

-- the input is the text of such logs
abbrev pub IsWantedOf : List ℕ → Option Wanted → Type 0
IsWantedOf input wanted = IsOfLogs (λ before logs last. IsWanted before logs last wanted) input
