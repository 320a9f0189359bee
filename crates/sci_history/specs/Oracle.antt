-- The log of one memory of one thread that does operations in the order given.
use Rattle.std.specs.Prelude.{ℕ, ◌+◌, ◌<◌, ◌&&◌, Bool, if◌then◌else◌, List, [], ◌∷◌, ◌++◌, filter, count_by, map}
use Rattle.std.specs.List.{range_with_len}
use Rattle.sci_words.specs.{Stamped.{reply_of}, declared.limits.TheConstants.{MAX_NODES, WORDS_PER_LINE}}
use Rattle.sci_words.specs.{declared.{operation.Op.{Op}, stamped.Stamped.{Stamped}}, Operation.{is_maker}}
use Rattle.sci_history.specs.{declared.entry.Entry.{Entry}, Memory.{zero_memory, line_at, memory_after_all}}
use Rattle.sci_history.specs.Placed.{is_of_node, is_on_line, is_making}

-- an issue is a node and the operation that its processor issues
abbrev pub Issue : Type 0
Issue = ℕ × Op

-- node, line and word are within a machine's limits
pub record IsInRange (lines : ℕ) (issue : Issue) : Type 0 where
  pub node : issue.0 < MAX_NODES
  pub line : issue.1.line < lines
  pub word : issue.1.word < WORDS_PER_LINE

-- a maker on this line
abbrev pub makes_on : ℕ → Entry → Bool
makes_on line entry = is_on_line line entry && is_making entry

-- the memory after entries that began at zero
abbrev pub memory_of : ℕ → List Entry → List (List ℕ)
memory_of lines done = memory_after_all (zero_memory lines) (map (λ entry. entry.op) done)

-- The entry of an issue after those done: the serial counts the node's entries, the version counts the makers on
-- the line, the issue's own included, and the reply is that of the memory so far.
abbrev pub entry_after : ℕ → List Entry → Issue → Entry
entry_after lines done issue = record {
  node = issue.0;
  serial = count_by (is_of_node issue.0) done;
  op = issue.1;
  reply = reply_of (line_at (memory_of lines done) issue.1.line) issue.1;
  version = count_by (makes_on issue.1.line) done + (if is_maker issue.1 then 1 else 0);
}

-- the entries done, and those of the issues that follow
unfoldable pub done_after : ℕ → List Entry → List Issue → List Entry
done_after lines done [] = done
done_after lines done (issue ∷ issues) = done_after lines (done ++ entry_after lines done issue ∷ []) issues

-- the entries of a script's issues, in its order
abbrev pub oracle_entries : ℕ → List Issue → List Entry
oracle_entries lines script = done_after lines [] script

-- each node's entries
abbrev pub logs_by_node : List Entry → List (List Entry)
logs_by_node done = map (λ node. filter (is_of_node node) done) (range_with_len 0 MAX_NODES)

-- each line's words, with the number of its makers
abbrev pub contents_left : ℕ → List Entry → List Stamped
contents_left lines done = map (λ line. record { line = line_at (memory_of lines done) line; version = count_by (makes_on line) done }) (range_with_len 0 lines)

-- the logs and the last contents that a script leaves
abbrev pub oracle_logs : ℕ → List Issue → List (List Entry)
oracle_logs lines script = logs_by_node (oracle_entries lines script)

abbrev pub oracle_last : ℕ → List Issue → List Stamped
oracle_last lines script = contents_left lines (oracle_entries lines script)
