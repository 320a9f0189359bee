-- What is said of logs, by whether they begin with zeros, or with contents that were given.
use Rattle.std.specs.Prelude.{List, Option, Some, None}
use Rattle.sci_words.specs.declared.stamped.Stamped.{Stamped}
use Rattle.sci_history.specs.{declared.{entry.Entry.{Entry}, verdict.Verdict.{Verdict}}, Audit.{IsVerdict}, Lawful.{Lawful}}
use Rattle.sci_history.specs.Sequential.{IsSequentialOrder, IsSequentiallyConsistent}
use Rattle.sci_windows.specs.{Fault.{IsVerdictFrom}, Order.{AreOrderedFrom, IsSequentialOrderFrom}, Window.{LawfulFrom}}
use Rattle.sci_c.specs.Journal.{JournalOf}

-- what an audit says
abbrev pub IsVerdictIn : Option (List Stamped) → List (List Entry) → List Stamped → Verdict → Type 0
IsVerdictIn None logs last verdict = IsVerdict logs last verdict
IsVerdictIn (Some first) logs last verdict = IsVerdictFrom logs first last verdict

abbrev pub IsVerdictOf : JournalOf → Verdict → Type 0
IsVerdictOf journal verdict = IsVerdictIn journal.first journal.logs journal.last verdict

-- the logs are lawful
abbrev pub AreLawfulIn : Option (List Stamped) → List (List Entry) → List Stamped → Type 0
AreLawfulIn None logs last = Lawful logs last
AreLawfulIn (Some first) logs last = LawfulFrom logs first last

abbrev pub AreLawful : JournalOf → Type 0
AreLawful journal = AreLawfulIn journal.first journal.logs journal.last

-- this is one order of all entries
abbrev pub IsOrderIn : Option (List Stamped) → List (List Entry) → List Stamped → List Entry → Type 0
IsOrderIn None logs last order = IsSequentialOrder logs last order
IsOrderIn (Some first) logs last order = IsSequentialOrderFrom logs first last order

abbrev pub IsOrderOfAll : JournalOf → List Entry → Type 0
IsOrderOfAll journal order = IsOrderIn journal.first journal.logs journal.last order

-- there is one
abbrev pub AreOrderedIn : Option (List Stamped) → List (List Entry) → List Stamped → Type 0
AreOrderedIn None logs last = IsSequentiallyConsistent logs last
AreOrderedIn (Some first) logs last = AreOrderedFrom logs first last

abbrev pub AreOrdered : JournalOf → Type 0
AreOrdered journal = AreOrderedIn journal.first journal.logs journal.last
