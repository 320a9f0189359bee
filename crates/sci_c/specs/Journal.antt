-- Logs with last contents.
use Rattle.std.specs.Prelude.{ℕ, ◌≡◌, ◌<◌, ◌≤◌, ◌++◌, ◌∷◌, [], List, Option, Some, None, length, replicate, slice_set}
use Rattle.sci_words.specs.declared.{limits.TheConstants.{MAX_NODES, WORDS_PER_LINE}, stamped.Stamped.{Stamped}}
use Rattle.sci_words.specs.Stamped.{zero_stamped}
use Rattle.sci_history.specs.{declared.entry.Entry.{Entry}, Audit.{AreWithin}, Placed.{log_of}}
use Rattle.sci_windows.specs.Relative.{AreEarly}
use Rattle.sci_c_values.specs.declared.entry.SciEntry.{SciEntry}

-- the logs of a machine of this many nodes, the contents with which they begin, if they were given, and its last contents
pub record JournalOf : Type 0 where
  pub nodes : ℕ
  pub logs : List (List Entry)
  pub first : Option (List Stamped)
  pub last : List Stamped

-- first contents are of as many lines, and no version of theirs is above 2^63
abbrev pub IsBeginning : ℕ → Option (List Stamped) → Type 0
IsBeginning lines None = Unit {0}
IsBeginning lines (Some first) = (length first ≡ lines) × AreEarly first

-- there are 1 to 16 nodes, and the entries are on lines that there are
pub record IsJournal (journal : JournalOf) : Type 0 where
  pub some_node : 1 ≤ journal.nodes
  pub few_nodes : journal.nodes ≤ MAX_NODES
  pub within : AreWithin (length journal.last) journal.logs
  pub begins : IsBeginning (length journal.last) journal.first

-- logs that begin with zero words at version 0
abbrev pub journal_of : ℕ → List (List Entry) → List Stamped → JournalOf
journal_of nodes logs last = record { nodes = nodes; logs = logs; first = None; last = last }

-- logs without entries, and zero words at version 0
abbrev pub empty_journal : ℕ → ℕ → JournalOf
empty_journal nodes lines = journal_of nodes (replicate MAX_NODES []) (replicate lines zero_stamped)

-- the entry ends its node's log
abbrev pub with_entry : JournalOf → Entry → JournalOf
with_entry journal entry = record journal { logs = slice_set journal.logs entry.node (log_of journal.logs entry.node ++ entry ∷ []) }

-- a line has other contents
abbrev pub with_last : JournalOf → ℕ → Stamped → JournalOf
with_last journal line contents = record journal { last = slice_set journal.last line contents }

-- the contents with which lines begin: zero words at version 0 if none were given
abbrev pub first_or : ℕ → Option (List Stamped) → List Stamped
first_or lines None = replicate lines zero_stamped
first_or lines (Some first) = first

abbrev pub first_of : JournalOf → List Stamped
first_of journal = first_or (length journal.last) journal.first

-- a line begins with other contents
abbrev pub with_first : JournalOf → ℕ → Stamped → JournalOf
with_first journal line contents = record journal { first = Some (slice_set (first_of journal) line contents) }

-- logs without entries, which begin where these end
abbrev pub next_window : JournalOf → JournalOf
next_window journal = record journal { logs = replicate MAX_NODES []; first = Some journal.last }

-- the node, the line and the word that a struct says are those of the logs
pub record FitsJournal (journal : JournalOf) (c : SciEntry) : Type 0 where
  pub node : c.node < journal.nodes
  pub line : c.op.line < length journal.last
  pub word : c.op.word < WORDS_PER_LINE
