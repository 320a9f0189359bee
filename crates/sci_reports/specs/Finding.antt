-- What is found on a line of memory that has a fault.
use Rattle.std.specs.Prelude.{◌≡◌, ◌+◌, ℕ, List, [], ◌∷◌, ◌++◌, IfSome, Option, Some, None}
use Rattle.sci_words.specs.declared.stamped.Stamped.{Stamped}
use Rattle.sci_history.specs.declared.{entry.Entry.{Entry}, faults.LineFault.{LineFault}}
use Rattle.sci_reports.specs.declared.finding.Finding.{Finding}
use Rattle.sci_reports.specs.{EntryLines.{entries_in}, Faulty.{IsAtFault, IsCaused, contents_left}, Placed.{ArePlaced}, Subject.{IsSubject}}

-- which of the line's entries is at fault by the kind of its fault, and why; the entries by version, and what they leave
pub record IsFinding (fault : LineFault) (finding : Finding) : Type 0 where
  pub is : finding.fault ≡ fault
  pub are : ArePlaced finding.subject.entries.items finding.placed.items
  pub at_fault : IsAtFault fault.kind (entries_in finding.subject.entries.items) (entries_in finding.placed.items) finding.found
  pub cause : IfSome finding.found (IsCaused fault.kind finding.subject.entries.items finding.placed.items)
  pub left : finding.left ≡ contents_left (entries_in finding.placed.items)

-- on a line without a fault nothing is found
abbrev pub AreFoundOn : ℕ → List (List Entry) → List Stamped → ℕ → Option LineFault → List Finding → Type 0
AreFoundOn before logs last line None findings = findings ≡ []
AreFoundOn before logs last line (Some fault) findings =
    (finding : Finding) × IsSubject before logs last line finding.subject × IsFinding fault finding × (findings ≡ finding ∷ [])

-- what is found on lines, from this one on
abbrev pub AreFindings : ℕ → List (List Entry) → List Stamped → ℕ → List (Option LineFault) → List Finding → Type 0
AreFindings before logs last line [] findings = findings ≡ []
AreFindings before logs last line (fault ∷ faults) findings =
    (first rest : List Finding) × AreFoundOn before logs last line fault first × AreFindings before logs last (line + 1) faults rest
    × (findings ≡ first ++ rest)
