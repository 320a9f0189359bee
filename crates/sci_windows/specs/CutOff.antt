-- Logs of a window that was cut off: its last contents aren't known.
use Rattle.std.specs.Prelude.{◌≡◌, ◌≢◌, ◌<◌, ℕ, List, Option, Some, None, length, slice_index_or}
use Rattle.sci_words.specs.declared.stamped.Stamped.{Stamped}
use Rattle.sci_history.specs.declared.{entry.Entry.{Entry}, verdict.FaultKind.{FaultKind, TheVariants.{LastDiffers}}, verdict.Verdict.{Verdict}}
use Rattle.sci_history.specs.declared.verdict.Verdict.TheVariants as verdicts
use Rattle.sci_history.specs.{declared.faults.LineFault.{LineFault}, Memory.{stamped_at}, Placed.{on_line}}
use Rattle.sci_windows.specs.{Fault.{IsLineFaultFrom}, Window.{HasHistoryFrom, LawfulFrom}}

-- the logs are lawful from the first contents to some last contents
abbrev pub LawfulCutOff : List (List Entry) → (first : List Stamped) → Type 0
LawfulCutOff logs first = (last : List Stamped) × LawfulFrom logs first last

-- a line has a history from these contents to some
abbrev pub HasSomeHistory : List (List Entry) → (line : ℕ) → (first : Stamped) → Type 0
HasSomeHistory logs line first = (last : Stamped) × HasHistoryFrom logs line first last

-- a fault of this line, which has no history then, whatever its last contents are, if each line below has one
pub record IsFaultCutOff (logs : List (List Entry)) (first : List Stamped) (line : ℕ) (kind : FaultKind) (named : Option (ℕ × ℕ)) : Type 0 where
  pub in_range : line < length first
  pub below : (other : ℕ) → other < line → HasSomeHistory logs other (stamped_at first other)
  pub unlawful : HasSomeHistory logs line (stamped_at first line) → ⊥
  pub before_last : kind ≢ LastDiffers
  pub fault : (last : Stamped) → IsLineFaultFrom (on_line line logs) (stamped_at first line) last kind named

-- what an audit of it says: lawful, or the fault that comes first
abbrev pub IsVerdictCutOff : List (List Entry) → (first : List Stamped) → Verdict → Type 0
IsVerdictCutOff logs first verdicts.Lawful = LawfulCutOff logs first
IsVerdictCutOff logs first (verdicts.Fault line kind at) = IsFaultCutOff logs first line kind at

-- ---- what is found on lines, whose last contents may differ

-- a line has no fault, or that of its last contents
abbrev pub IsAtLast : Option LineFault → Type 0
IsAtLast None = Unit {0}
IsAtLast (Some fault) = fault.kind ≡ LastDiffers

-- the first of these faults that isn't one of last contents
abbrev pub IsBeforeLast : List (Option LineFault) → Verdict → Type 0
IsBeforeLast faults verdicts.Lawful = (line : ℕ) → line < length faults → IsAtLast (slice_index_or faults line None)
IsBeforeLast faults (verdicts.Fault line kind at) =
    (line < length faults) × (slice_index_or faults line None ≡ Some (record { kind = kind; at = at })) × (kind ≢ LastDiffers)
    × ((other : ℕ) → other < line → IsAtLast (slice_index_or faults other None))
