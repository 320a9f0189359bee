-- The last entry that made each word of a line.
use Rattle.std.proofs.Common.{◌≡◌, ◌<◌, ◌+◌, ℕ, List, Option, Some, None, true, false, get_or, length, set, take, arith}
use Rattle.std.proofs.lemmas.{Bool.{cases_eq, eq-eqb, ne_eqb}, List.{get_or-set_same, get_or-set_other}}
use Rattle.std.specs.Prelude.{slice_index}
use Rattle.sci_history.specs.{declared.entry.Entry.{Entry}, Audit.{words_after}}
use Rattle.sci_reports.specs.declared.numbered.Numbered.{Numbered}
use Rattle.sci_reports.specs.{EntryLines.{entries_in}, Faulty.{IsLast, changes_word, makes_word}}
use Rattle.sci_reports.proofs.FoundEntries.{last_here, last_stays, no_numbered}

module _ (list : List Numbered) (i : ℕ) (lt : i < length list) (makers : List (Option Numbered)) (word : ℕ) where
  abbrev it : Numbered
  it = get_or list i no_numbered

  abbrev at : Entry
  at = it.entry.now

  abbrev before : List Entry
  before = take i (entries_in list)

  abbrev old : ℕ
  old = slice_index (words_after before) at.op.word

  -- it makes its word, and has the place of that word
  pub word_made : (f : ℕ) → f ≡ at.op.word → f < length makers → changes_word at.op old ≡ true
      → IsLast (makes_word word) (take i list) (get_or makers word None)
      → IsLast (makes_word word) (take (i + 1) list) (get_or (set makers f (Some it)) word None)
  word_made f is long makes was = grind (arith, cases_eq, get_or-set_same, eq-eqb, last_here, get_or-set_other, last_stays, ne_eqb)

  -- it leaves its word
  pub word_left : changes_word at.op old ≡ false → IsLast (makes_word word) (take i list) (get_or makers word None)
      → IsLast (makes_word word) (take (i + 1) list) (get_or makers word None)
  word_left leaves was = grind (arith, cases_eq, eq-eqb, last_stays, ne_eqb)
