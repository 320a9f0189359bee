-- Laws of the texts of logs.
use Rattle.std.proofs.Common.{ℕ, ◌≤◌, List, length, arith, inl, inr}
use Rattle.sci_words.specs.declared.{limits.TheConstants.{MAX_LINES, MAX_OPERATIONS}, stamped.Stamped.{Stamped}}
use Rattle.sci_history.specs.declared.entry.Entry.{Entry}
use Rattle.sci_text.specs.{declared.log_form.Form.{Form}, Log.{log_text}}
use Rattle.sci_text.specs.LogValue.{format_2, IsSize, IsForm, EntryFits, HasAllLines, AreLogsOf, AreLogs, IsLogs}

-- what a form says of its limits
record IsLimited (form : Form) (count : ℕ) : Type 0 where
  size : IsSize form.nodes count
  serials : form.serials ≤ MAX_OPERATIONS
  entries : form.entries ≤ MAX_OPERATIONS

limited : (form : Form) (count : ℕ) → IsForm form → HasAllLines form.lines count → count ≤ MAX_LINES → IsLimited form count
limited form count (inl e) whole few = grind arith
limited form count (inr h) whole few = grind arith

fits_format_2 : (form : Form) (lines count : ℕ) (entry : Entry) → form.serials ≤ MAX_OPERATIONS → EntryFits form count entry
    → EntryFits (format_2 form.nodes lines) count entry
fits_format_2 form lines count entry few h = grind arith

in_format_2 : (form : Form) (nodes : ℕ) (logs : List (List Entry)) (last : List Stamped) → AreLogsOf form nodes logs last
    → AreLogsOf (format_2 form.nodes (length last)) nodes logs last
in_format_2 form nodes logs last h = grind (arith, limited, fits_format_2)

-- logs that some text says are those of their text in format 2
pub written_again : (nodes : ℕ) (logs : List (List Entry)) (last : List Stamped) → AreLogs nodes logs last → IsLogs (log_text nodes logs last) nodes logs last
written_again nodes logs last are = grind (arith, in_format_2)
