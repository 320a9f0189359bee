-- What an audit of a window reports: the same rules as of logs that begin with zeros, for versions that are counted from the first
-- one and words that begin with the first ones.
use Rattle.std.specs.Prelude.{◌≡◌, ◌+◌, ◌<◌, ℕ, Bool, not, List, [], Option, None, length, map}
use Rattle.sci_words.specs.{declared.stamped.Stamped.{Stamped}, Stamped.{reply_of}}
use Rattle.sci_history.specs.{declared.entry.Entry.{Entry}, declared.verdict.FaultKind.{FaultKind}, declared.verdict.Verdict.{Verdict}}
use Rattle.sci_history.specs.declared.verdict.FaultKind.TheVariants.{VersionTwice, VersionMissing, WrongReply, OutOfOrder, LastDiffers}
use Rattle.sci_history.specs.declared.verdict.Verdict.TheVariants as verdicts
use Rattle.sci_history.specs.Audit.{Names, first_disordered, first_failing, first_missing, first_twice, line_after_all, same_reply}
use Rattle.sci_history.specs.{Memory.{stamped_at}, Placed.{maker_count, on_line, placed_entries}}
use Rattle.sci_windows.specs.{Relative.{counted_from}, Window.{HasHistoryFrom, LawfulFrom}}

-- an entry whose version is counted from the first one
abbrev pub counted : ℕ → Entry → Entry
counted first entry = record entry { version = counted_from first entry.version }

-- the words of a line after entries that began with these words
abbrev pub words_from : List ℕ → List Entry → List ℕ
words_from words before = line_after_all words (map (λ entry. entry.op) before)

-- an entry whose reply isn't the effect's, after those placed before it
abbrev pub is_reply_wrong_from : List ℕ → List Entry → Entry → Bool
is_reply_wrong_from words before entry = not (same_reply entry.reply (reply_of (words_from words before) entry.op))

abbrev pub first_wrong_from : List ℕ → List Entry → Option Entry
first_wrong_from words entries = first_failing (is_reply_wrong_from words) [] (placed_entries entries)

-- what a line's counted entries lead to isn't its last contents
abbrev pub Differ : List Entry → (first last : Stamped) → Type 0
Differ entries first last = (last.line ≡ words_from first.line (placed_entries entries)) × (last.version ≡ first.version + maker_count entries) → ⊥

-- the first kind that fails among a line's counted entries, and the first entry where it does
abbrev pub IsCountedFault : List Entry → (first last : Stamped) → FaultKind → Option (ℕ × ℕ) → Type 0
IsCountedFault entries first last VersionTwice named = Names (first_twice entries) named
IsCountedFault entries first last VersionMissing named = (first_twice entries ≡ None) × Names (first_missing entries) named
IsCountedFault entries first last WrongReply named =
    (first_twice entries ≡ None) × (first_missing entries ≡ None) × Names (first_wrong_from first.line entries) named
IsCountedFault entries first last OutOfOrder named =
    (first_twice entries ≡ None) × (first_missing entries ≡ None) × (first_wrong_from first.line entries ≡ None)
    × Names (first_disordered entries) named
IsCountedFault entries first last LastDiffers named =
    (first_twice entries ≡ None) × (first_missing entries ≡ None) × (first_wrong_from first.line entries ≡ None)
    × (first_disordered entries ≡ None) × (named ≡ None) × Differ entries first last

-- a line's fault in a window
abbrev pub IsLineFaultFrom : List Entry → (first last : Stamped) → FaultKind → Option (ℕ × ℕ) → Type 0
IsLineFaultFrom entries first last kind named = IsCountedFault (map (counted first.version) entries) first last kind named

-- a fault of this line, which has no history then, if each line below is lawful
pub record IsFaultFrom (logs : List (List Entry)) (first last : List Stamped) (line : ℕ) (kind : FaultKind) (named : Option (ℕ × ℕ)) : Type 0 where
  pub in_range : line < length last
  pub below : (other : ℕ) → other < line → HasHistoryFrom logs other (stamped_at first other) (stamped_at last other)
  pub unlawful : HasHistoryFrom logs line (stamped_at first line) (stamped_at last line) → ⊥
  pub fault : IsLineFaultFrom (on_line line logs) (stamped_at first line) (stamped_at last line) kind named

-- what an audit of a window says: lawful, or the fault that comes first
abbrev pub IsVerdictFrom : List (List Entry) → (first last : List Stamped) → Verdict → Type 0
IsVerdictFrom logs first last verdicts.Lawful = LawfulFrom logs first last
IsVerdictFrom logs first last (verdicts.Fault line kind at) = IsFaultFrom logs first last line kind at
