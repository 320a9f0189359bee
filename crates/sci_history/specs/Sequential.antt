-- Sequential consistency of logs: one order of all entries that one memory of one thread explains (L. Lamport, "How to
-- Make a Multiprocessor Computer That Correctly Executes Multiprocess Programs", 1979).
use Rattle.std.specs.Prelude.{◌≡◌, ◌<◌, ℕ, List, filter, AllPairs, map}
use Rattle.sci_words.specs.{declared.stamped.Stamped.{Stamped}, Stamped.{zero_stamped}}
use Rattle.sci_history.specs.{declared.entry.Entry.{Entry}, History.{IsHistory}, Memory.{stamped_at}}
use Rattle.sci_history.specs.Placed.{in_serial_order, log_of, is_of_node, is_on_line}

-- An order of all entries of the logs: each node's entries stand in it as in the node's log, and those on each line are
-- the line's history from zero words to its last contents.
pub record IsSequentialOrder (logs : List (List Entry)) (last : List Stamped) (order : List Entry) : Type 0 where
  pub logged : (node : ℕ) → filter (is_of_node node) order ≡ log_of logs node
  pub histories : (line : ℕ) → IsHistory (filter (is_on_line line) order) zero_stamped (stamped_at last line)

-- there is such an order
abbrev pub IsSequentiallyConsistent : List (List Entry) → List Stamped → Type 0
IsSequentiallyConsistent logs last = (order : List Entry) × IsSequentialOrder logs last order

-- entries stand in the order in which their node issued them
abbrev pub IsInProgramOrder : List Entry → Type 0
IsInProgramOrder log = AllPairs (λ x y. x.serial < y.serial) log

-- each log stands in the order issued
abbrev pub AreInProgramOrder : List (List Entry) → Type 0
AreInProgramOrder logs = (node : ℕ) → IsInProgramOrder (log_of logs node)

-- each node's entries in the order issued, by their serials
abbrev pub by_serial : List (List Entry) → List (List Entry)
by_serial logs = map in_serial_order logs
