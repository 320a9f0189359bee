-- Operations that took effect on one line one after another.
use Rattle.std.specs.Prelude.{◌≡◌, ℕ, ◌<◌, nat_le, if◌then◌else◌, List, [], ◌∷◌, filter, AllPairs}
use Rattle.std.specs.List.{AllByRecursion}
use Rattle.sci_words.specs.declared.{limits.TheConstants.{MAX_NODES}, stamped.Stamped.{Stamped}}
use Rattle.sci_words.specs.Stamped.{after, line_after, zero_stamped, reply_of}
use Rattle.sci_history.specs.{declared.entry.Entry.{Entry}, Placed.{log_of, is_of_node, is_on_line}}

-- Entries are a line's history from one stamped line to another: each reply is that of the line so far, and each
-- version is the one that the line has after the operation.
abbrev pub IsHistory : List Entry → Stamped → Stamped → Type 0
IsHistory [] old new = new ≡ old
IsHistory (entry ∷ entries) old new =
    (entry.reply ≡ reply_of old.line entry.op) × (entry.version ≡ (after old entry.op).version) × IsHistory entries (after old entry.op) new

-- A line has a history: entries in some order, which is each node's own, lead from zero words to the last contents,
-- and each node's serials rise.
pub record HasHistory (logs : List (List Entry)) (line : ℕ) (last : Stamped) : Type 0 where
  pub entries : List Entry
  pub history : IsHistory entries zero_stamped last
  pub nodes : AllByRecursion (λ entry. entry.node < MAX_NODES) entries
  pub logged : (node : ℕ) → node < MAX_NODES → filter (is_on_line line) (log_of logs node) ≡ filter (is_of_node node) entries
  pub serials : (node : ℕ) → node < MAX_NODES → AllPairs (λ x y. x.serial < y.serial) (filter (is_on_line line) (log_of logs node))

-- the words of a line that began with these when its version was last this one
abbrev pub words_at : List ℕ → List Entry → ℕ → List ℕ
words_at words [] version = words
words_at words (entry ∷ entries) version =
    if nat_le entry.version version then words_at (line_after words entry.op) entries version else words
