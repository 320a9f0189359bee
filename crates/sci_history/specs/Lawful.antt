-- What makes logs lawful: for each line, a memory of one thread explains them.
use Rattle.std.specs.{Prelude.{◌≡◌, ℕ, ◌<◌, ◌≤◌, IsTrue, List, filter, count_by, map, AllPairs}, List.{AllByRecursion}}
use Rattle.sci_words.specs.{declared.{limits.TheConstants.{MAX_NODES}, stamped.Stamped.{Stamped}}, Stamped.{zero_line}}
use Rattle.sci_history.specs.{declared.entry.Entry.{Entry}, Memory.{IsLineRun, stamped_at}}
use Rattle.sci_history.specs.Placed.{log_of, is_of_node, is_on_line, is_making, makes, maker_count, on_line, placed, pair_of}

-- The versions of the makers among a line's entries are 1 to their number, each once, and no load has a version
-- above it.
pub record HasWholeVersions (entries : List Entry) : Type 0 where
  pub once : (version : ℕ) → 1 ≤ version → version ≤ maker_count entries → count_by (makes version) entries ≡ 1
  pub makers : AllByRecursion (λ entry. IsTrue (is_making entry) → 1 ≤ entry.version) entries
  pub within : AllByRecursion (λ entry. entry.version ≤ maker_count entries) entries

-- In the order of their versions, the operations and replies on a line are a run from zero words to these
-- contents, whose version is the number of makers.
pub record EndsAt (logs : List (List Entry)) (line : ℕ) (last : Stamped) : Type 0 where
  pub run : IsLineRun (map pair_of (placed logs line)) zero_line last.line
  pub version : last.version ≡ maker_count (on_line line logs)

-- a node's entries on a line stand in the order of its log, and their serials rise
pub record KeepsOrder (logs : List (List Entry)) (line node : ℕ) : Type 0 where
  pub order : filter (is_of_node node) (placed logs line) ≡ filter (is_on_line line) (log_of logs node)
  pub serials : AllPairs (λ x y. x.serial < y.serial) (filter (is_on_line line) (log_of logs node))

pub record IsLawfulLine (logs : List (List Entry)) (line : ℕ) (last : Stamped) : Type 0 where
  pub versions : HasWholeVersions (on_line line logs)
  pub contents : EndsAt logs line last
  pub order : (node : ℕ) → node < MAX_NODES → KeepsOrder logs line node

-- each line is lawful
abbrev pub Lawful : List (List Entry) → List Stamped → Type 0
Lawful logs last = (line : ℕ) → IsLawfulLine logs line (stamped_at last line)
