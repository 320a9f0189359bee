-- The entry that a struct says.
use Rattle.std.specs.Prelude.{◌≡◌, ℕ}
use Rattle.sci_words.specs.declared.operation.{Act.{Act}, Reply.{Reply, TheVariants.{Stored, Got}}}
use Rattle.sci_history.specs.declared.entry.Entry.{Entry}
use Rattle.sci_text.specs.LogValue.{Answers}
use Rattle.sci_c_values.specs.{declared.entry.SciEntry.{SciEntry}, Operation.{SaysOp, op_struct}}

-- 1 for a reply that has a word
abbrev pub word_count : Reply → ℕ
word_count Stored = 0
word_count (Got word) = 1

abbrev pub word_of : Reply → ℕ
word_of Stored = 0
word_of (Got word) = word

-- the struct of an entry
abbrev pub entry_struct : Entry → SciEntry
entry_struct entry = record {
  node = entry.node;
  has_word = word_count entry.reply;
  reserved = 0;
  serial = entry.serial;
  op = op_struct entry.op;
  word = word_of entry.reply;
  version = entry.version;
}

-- a struct says this reply
abbrev pub SaysReply : SciEntry → Reply → Type 0
SaysReply c Stored = c.has_word ≡ 0
SaysReply c (Got word) = (c.has_word ≡ 1) × (c.word ≡ word)

-- and one that an operation of this act can have: a store's is no word, and every other's is one
pub record SaysReplyTo (act : Act) (c : SciEntry) (reply : Reply) : Type 0 where
  pub says : SaysReply c reply
  pub answers : Answers act reply

-- a struct says this entry
pub record SaysEntry (c : SciEntry) (entry : Entry) : Type 0 where
  pub node : c.node ≡ entry.node
  pub serial : c.serial ≡ entry.serial
  pub op : SaysOp c.op entry.op
  pub reply : SaysReplyTo entry.op.act c entry.reply
  pub version : c.version ≡ entry.version
