-- Entries in the order of their versions.
use Rattle.std.specs.Prelude.{◌≡◌, ℕ, zero, suc, ◌+◌, ◌==◌, ◌&&◌, not, Bool, List, [], ◌∷◌, ◌++◌, filter, count_by, max, slice_index_or}
use Rattle.std.specs.List.{flat_map, All}
use Rattle.sci_words.specs.declared.{limits.TheConstants.{MAX_NODES}, operation.{Op.{Op}, Reply.{Reply}}}
use Rattle.sci_words.specs.Operation.{is_maker}
use Rattle.sci_history.specs.declared.entry.Entry.{Entry}

-- the log of a node
abbrev pub log_of : List (List Entry) → ℕ → List Entry
log_of logs node = slice_index_or logs node []

-- each log has its own node's entries
abbrev pub AreOwn : List (List Entry) → Type 0
AreOwn logs = (node : ℕ) → All (λ entry. entry.node ≡ node) (log_of logs node)

abbrev pub is_of_node : ℕ → Entry → Bool
is_of_node node entry = entry.node == node

abbrev pub is_on_line : ℕ → Entry → Bool
is_on_line line entry = entry.op.line == line

-- a maker is an entry of a store or a lock operation
abbrev pub is_making : Entry → Bool
is_making entry = is_maker entry.op

-- a maker of this version
abbrev pub makes : ℕ → Entry → Bool
makes version entry = is_making entry && (entry.version == version)

-- a load at this version
abbrev pub reads : ℕ → Entry → Bool
reads version entry = not (is_making entry) && (entry.version == version)

abbrev pub maker_count : List Entry → ℕ
maker_count entries = count_by is_making entries

-- the entries on a line, by node, then by place in the log
abbrev pub on_line : ℕ → List (List Entry) → List Entry
on_line line logs = filter (is_on_line line) (flat_map (λ log. log) logs)

-- the elements whose keys are below a bound, by key, and those of one key as they stand
unfoldable pub in_order : {X : Type 0} → (X → ℕ) → ℕ → List X → List X
in_order key zero xs = []
in_order key (suc bound) xs = in_order key bound xs ++ filter (λ x. key x == bound) xs

-- a number above all serials
abbrev pub above_serials : List Entry → ℕ
above_serials [] = 0
above_serials (entry ∷ entries) = max (entry.serial + 1) (above_serials entries)

-- by serial, and those of one serial as they stand
abbrev pub in_serial_order : List Entry → List Entry
in_serial_order entries = in_order (λ entry. entry.serial) (above_serials entries) entries

-- by node, then by serial, then by place in the log
abbrev pub by_node_and_serial : List Entry → List Entry
by_node_and_serial entries = in_order (λ entry. entry.node) MAX_NODES (in_serial_order entries)

-- for each version below the bound its makers, and then the loads at it
unfoldable pub by_version : ℕ → List Entry → List Entry
by_version zero entries = []
by_version (suc version) entries =
    by_version version entries ++ (by_node_and_serial (filter (makes version) entries) ++ by_node_and_serial (filter (reads version) entries))

-- a line's entries in the order of their versions, from 0 to the number of makers
abbrev pub placed_entries : List Entry → List Entry
placed_entries entries = by_version (suc (maker_count entries)) entries

-- the entries on a line in the order of their versions
abbrev pub placed : List (List Entry) → ℕ → List Entry
placed logs line = placed_entries (on_line line logs)

-- an entry's operation with its reply
abbrev pub pair_of : Entry → Op × Reply
pair_of entry = (entry.op, entry.reply)
