-- On which lines of a log's text its entries stand.
use denote.Ref.{Bor}
use Rattle.std.specs.Prelude.{◌≡◌, ℕ, ◌+◌, ◌⊎◌, List, take, map, filter, slice_get, Option, Some, None}
use Rattle.std.specs.{List.{enumerate_from, flat_map}, Global.{Vec}}
use Rattle.sci_history.specs.{declared.entry.Entry.{Entry}, Audit.{entries_of}, Placed.{is_on_line, log_of}}
use Rattle.sci_text.specs.LogValue.{BeginsLog, entry_count}
use Rattle.sci_reports.specs.declared.numbered.Numbered.{Numbered}

-- an entry of a log, with the number of the text's line that has it
abbrev pub numbering : Numbered → ℕ × Entry
numbering it = (it.text_line, it.entry.now)

abbrev pub numberings : List Numbered → List (ℕ × Entry)
numberings list = map numbering list

-- lists of entries, one list for each line of memory
abbrev pub numbered_lists : List (Vec Numbered) → List (List (ℕ × Entry))
numbered_lists lists = map (λ list. numberings list.items) lists

-- the entry alone
abbrev pub entry_of : Numbered → Entry
entry_of it = it.entry.now

-- the entries alone
abbrev pub entry_refs : List Numbered → List (Bor Entry)
entry_refs list = map (λ it. it.entry) list

abbrev pub entries_in : List Numbered → List Entry
entries_in list = entries_of (entry_refs list)

-- of entries that stand on the lines from this one on, those on a line of memory
abbrev pub on_line_from : ℕ → ℕ → List Entry → List (ℕ × Entry)
on_line_from line first entries = filter (λ it. is_on_line line it.1) (enumerate_from first entries)

-- the entries of logs on a line of memory, behind this many lines of text
abbrev pub numbered_on : ℕ → ℕ → List (List Entry) → List (ℕ × Entry)
numbered_on line before logs = on_line_from line (before + 1) (flat_map (λ log. log) logs)

-- the first line of a text in format 2 says the size; one in format 1 has no such line
abbrev pub IsOpening : List ℕ → ℕ → Type 0
IsOpening text count = (BeginsLog text × (count ≡ 1)) ⊎ ((BeginsLog text → ⊥) × (count ≡ 0))

-- how many lines come before the entries of a text of this many lines of memory
abbrev pub IsBeforeEntries : List ℕ → ℕ → ℕ → Type 0
IsBeforeEntries text lines before = (opening : ℕ) × IsOpening text opening × (before ≡ opening + lines)

-- An entry of this node, serial and line of memory stands on the line of this number, from 1: in lawful logs there is one. The
-- entries of lower nodes come first, and then those before it in its own log.
pub record StandsOn (before : ℕ) (logs : List (List Entry)) (entry : Entry) (line : ℕ) : Type 0 where
  pub place : ℕ
  pub found : Entry
  pub there : slice_get (log_of logs entry.node) place ≡ Some found
  pub same_serial : found.serial ≡ entry.serial
  pub same_line : found.op.line ≡ entry.op.line
  pub is : line ≡ before + entry_count (take entry.node logs) + place + 1

-- the number of a line on which the entry stands, if it stands on one
abbrev pub IsLineOf : ℕ → List (List Entry) → Entry → Option ℕ → Type 0
IsLineOf before logs entry (Some line) = StandsOn before logs entry line
IsLineOf before logs entry None = (line : ℕ) → StandsOn before logs entry line → ⊥
