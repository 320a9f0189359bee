-- Numbers in range: words are below 2^64, and versions no more than all nodes may make.
use Rattle.std.specs.{Prelude.{◌≡◌, ◌<◌, ◌≤◌, ◌*◌, ◌^◌, ℕ, List, length, IsTrue}, List.{All}}
use Rattle.sci_words.specs.declared.limits.TheConstants.{MAX_NODES, MAX_OPERATIONS, WORDS_PER_LINE}
use Rattle.sci_words.specs.declared.{operation.Reply.{Reply, TheVariants.{Stored, Got}}, stamped.Stamped.{Stamped}}
use Rattle.sci_words.specs.Operation.{has_words}
use Rattle.sci_history.specs.declared.entry.Entry.{Entry}
use Rattle.sci_core.specs.Size.{Size}

-- eight words
pub record IsLine (words : List ℕ) : Type 0 where
  pub eight : length words ≡ WORDS_PER_LINE
  pub words_fit : All (λ word. word < 2 ^ 64) words

-- a line with no more versions than there are operations
pub record IsStamped (stamped : Stamped) : Type 0 where
  pub line : IsLine stamped.line
  pub version : stamped.version ≤ MAX_NODES * MAX_OPERATIONS

abbrev pub IsReply : Reply → Type 0
IsReply Stored = Unit {0}
IsReply (Got word) = word < 2 ^ 64

-- an entry of a machine of this size
pub record IsEntryOf (size : Size) (entry : Entry) : Type 0 where
  pub node : entry.node < size.nodes
  pub serial : entry.serial < size.limit
  pub line : entry.op.line < size.lines
  pub word : entry.op.word < WORDS_PER_LINE
  pub operands : IsTrue (has_words entry.op.act)
  pub reply : IsReply entry.reply
  pub version : entry.version ≤ MAX_NODES * MAX_OPERATIONS
