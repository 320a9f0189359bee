-- The entries of a line, each with its line of the text, in the order in which the audit places them.
use Rattle.std.specs.{Prelude.{◌≡◌, ◌<◌, ◌==◌, ◌&&◌, ℕ, Bool, List, All, filter, if◌then◌else◌}, List.Sorted.{IsPermutation}}
use Rattle.sci_history.specs.{declared.entry.Entry.{Entry}, Placed.{by_version, is_making, is_of_node, makes, reads}}
use Rattle.sci_reports.specs.{declared.numbered.Numbered.{Numbered}, EntryLines.{entries_in, entry_of}}

-- an entry has the node, the serial and the version of another, and is a maker exactly if the other is
abbrev pub ties_with : Entry → Entry → Bool
ties_with other entry = is_of_node other.node entry
    && ((entry.serial == other.serial) && (if is_making other then makes other.version entry else reads other.version entry))

-- entries that tie, as equal ones do, stand as they stood
abbrev pub KeepsTies : List Numbered → List Numbered → Type 0
KeepsTies entries placed = (tied : Entry) → filter (λ it. ties_with tied (entry_of it)) placed ≡ filter (λ it. ties_with tied (entry_of it)) entries

-- the entries by version, as the audit places them, and those that tie as they stood
pub record ArePlaced (entries placed : List Numbered) : Type 0 where
  pub kept : IsPermutation entries placed
  pub order : (bound : ℕ) → All (λ entry. entry.version < bound) (entries_in entries) → entries_in placed ≡ by_version bound (entries_in entries)
  pub ties : KeepsTies entries placed
