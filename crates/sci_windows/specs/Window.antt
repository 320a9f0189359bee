-- Windows of a run: logs that begin with given contents of each line.
use Rattle.std.specs.Prelude.{◌≡◌, ◌<◌, ◌+◌, ◌++◌, ℕ, List, AllPairs, filter, map}
use Rattle.std.specs.List.{AllByRecursion, range_with_len}
use Rattle.sci_words.specs.declared.{limits.TheConstants.{MAX_NODES}, stamped.Stamped.{Stamped}}
use Rattle.sci_history.specs.{declared.entry.Entry.{Entry}, History.{IsHistory}, Memory.{stamped_at}, Seen.{IsAmong}}
use Rattle.sci_history.specs.Placed.{log_of, is_of_node, is_on_line}

-- A line has a history in a window: entries in some order, which is each node's own, lead from the first contents to the last
-- contents, and each node's serials rise. The versions go on from that of the first contents.
pub record HasHistoryFrom (logs : List (List Entry)) (line : ℕ) (first last : Stamped) : Type 0 where
  pub entries : List Entry
  pub history : IsHistory entries first last
  pub nodes : AllByRecursion (λ entry. entry.node < MAX_NODES) entries
  pub logged : (node : ℕ) → node < MAX_NODES → filter (is_on_line line) (log_of logs node) ≡ filter (is_of_node node) entries
  pub serials : (node : ℕ) → node < MAX_NODES → AllPairs (λ x y. x.serial < y.serial) (filter (is_on_line line) (log_of logs node))

-- logs of a window are lawful from the first contents to the last: each line has a history between its own
abbrev pub LawfulFrom : List (List Entry) → (first last : List Stamped) → Type 0
LawfulFrom logs first last = (line : ℕ) → HasHistoryFrom logs line (stamped_at first line) (stamped_at last line)

-- ---- windows that meet

-- each node's log of one window, and then that of the next
abbrev pub joined : List (List Entry) → List (List Entry) → List (List Entry)
joined a b = map (λ node. log_of a node ++ log_of b node) (range_with_len 0 MAX_NODES)

-- each node issued its entries of one window before those of the next
abbrev pub AreIssuedBefore : List (List Entry) → List (List Entry) → Type 0
AreIssuedBefore a b = (node : ℕ) (x y : Entry) → IsAmong x (log_of a node) → IsAmong y (log_of b node) → x.serial < y.serial

-- an entry whose serial goes on from this many operations of its node
abbrev pub counted_on : (ℕ → ℕ) → Entry → Entry
counted_on counts entry = record entry { serial = counts entry.node + entry.serial }

-- logs whose serials go on so
abbrev pub counting_on : (ℕ → ℕ) → List (List Entry) → List (List Entry)
counting_on counts logs = map (λ log. map (counted_on counts) log) logs
