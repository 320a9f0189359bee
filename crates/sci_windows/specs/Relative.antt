-- A window's entries as another memory has them, which begins with zero words at version 0: what an audit is given.
use Rattle.std.specs.Prelude.{◌≡◌, ◌≤◌, ◌+◌, ◌-◌, ◌^◌, ◌==◌, nat_le, if◌then◌else◌, ℕ, List, [], ◌∷◌, length, map, slice_index}
use Rattle.sci_words.specs.declared.{limits.TheConstants.{WORDS_PER_LINE}, stamped.Stamped.{Stamped}}
use Rattle.sci_words.specs.declared.operation.{Act.{Act, TheVariants.{Load, Store, Lock}}, Op.{Op}, Reply.{Reply, TheVariants.{Stored, Got}}}
use Rattle.sci_words.specs.declared.operation.LockOp.TheVariants.{CompareSwap}
use Rattle.sci_words.specs.Operation.{locked_word}
use Rattle.sci_history.specs.{declared.entry.Entry.{Entry}, Memory.{stamped_at}, Placed.{log_of}}

-- the first word and 0 change places
abbrev pub swapped : ℕ → ℕ → ℕ
swapped first word = if word == first then 0 else (if word == 0 then first else word)

-- versions are counted from the first one; one before it comes after all that there can be
abbrev pub counted_from : ℕ → ℕ → ℕ
counted_from first version = if nat_le first version then version - first else version + (2 ^ 64 - first)

abbrev pub relative_reply : ℕ → Reply → Reply
relative_reply first Stored = Stored
relative_reply first (Got word) = Got (swapped first word)

-- a lock operation that says what it got becomes one that leaves the same if it did get that
abbrev pub relative_act : ℕ → Act → Reply → Act
relative_act first Load reply = Load
relative_act first (Store word) reply = Store (swapped first word)
relative_act first (Lock lock) Stored = Lock lock
relative_act first (Lock lock) (Got word) = Lock (CompareSwap (swapped first word) (swapped first (locked_word lock word)))

abbrev pub relative_op : ℕ → Op → Reply → Op
relative_op first op reply = record op { act = relative_act first op.act reply }

-- an entry on a line that begins with these contents
abbrev pub relative_to : Stamped → Entry → Entry
relative_to first entry = record entry {
  op = relative_op (slice_index first.line entry.op.word) entry.op entry.reply;
  reply = relative_reply (slice_index first.line entry.op.word) entry.reply;
  version = counted_from first.version entry.version;
}

-- an entry of a window that begins with these contents
abbrev pub relative_entry : List Stamped → Entry → Entry
relative_entry first entry = relative_to (stamped_at first entry.op.line) entry

abbrev pub relative_logs : List Stamped → List (List Entry) → List (List Entry)
relative_logs first logs = map (λ log. map (relative_entry first) log) logs

abbrev pub relative_line : List ℕ → List ℕ → List ℕ
relative_line [] words = words
relative_line (first ∷ firsts) [] = []
relative_line (first ∷ firsts) (word ∷ words) = swapped first word ∷ relative_line firsts words

abbrev pub relative_stamped : Stamped → Stamped → Stamped
relative_stamped first stamped = record { line = relative_line first.line stamped.line; version = counted_from first.version stamped.version }

-- contents of lines, of which the first ones begin the window
abbrev pub relative_contents : List Stamped → List Stamped → List Stamped
relative_contents [] contents = contents
relative_contents (first ∷ firsts) [] = []
relative_contents (first ∷ firsts) (stamped ∷ contents) = relative_stamped first stamped ∷ relative_contents firsts contents

-- ---- what a window is

-- each line has its eight words
abbrev pub AreLines : List Stamped → Type 0
AreLines contents = (line : ℕ) → length (stamped_at contents line).line ≡ WORDS_PER_LINE

-- no version is so high that the window could come to the end of the versions
abbrev pub AreEarly : List Stamped → Type 0
AreEarly first = (line : ℕ) → (stamped_at first line).version ≤ 2 ^ 63

-- no log has more entries than 2^32
abbrev pub AreFew : List (List Entry) → Type 0
AreFew logs = (node : ℕ) → length (log_of logs node) ≤ 2 ^ 32
