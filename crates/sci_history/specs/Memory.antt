-- A memory of one thread, and the runs of operations on it.
use Rattle.std.specs.Prelude.{◌≡◌, ℕ, List, [], ◌∷◌, map, replicate, slice_index_or, slice_set}
use Rattle.sci_words.specs.declared.{operation.{Op.{Op}, Reply.{Reply}}, stamped.Stamped.{Stamped}}
use Rattle.sci_words.specs.Stamped.{line_after, after, reply_of, zero_line, zero_stamped}

-- a memory is a list of lines, each a list of eight words; the zero memory has 0 everywhere
abbrev pub zero_memory : ℕ → List (List ℕ)
zero_memory lines = replicate lines zero_line

abbrev pub line_at : List (List ℕ) → ℕ → List ℕ
line_at memory line = slice_index_or memory line zero_line

-- the operation's word becomes the effect's new word, and every other word stays
abbrev pub memory_after : List (List ℕ) → Op → List (List ℕ)
memory_after memory op = slice_set memory op.line (line_after (line_at memory op.line) op)

-- the memory that operations leave, one after another
abbrev pub memory_after_all : List (List ℕ) → List Op → List (List ℕ)
memory_after_all memory [] = memory
memory_after_all memory (op ∷ ops) = memory_after_all (memory_after memory op) ops

-- Operations with their replies are a run from one memory to another: step by step, each reply is that of the
-- effect on the operation's word, and the memory becomes what the operation leaves.
abbrev pub IsRun : List (Op × Reply) → List (List ℕ) → List (List ℕ) → Type 0
IsRun [] old new = new ≡ old
IsRun (pair ∷ pairs) old new = (pair.1 ≡ reply_of (line_at old pair.0.line) pair.0) × IsRun pairs (memory_after old pair.0) new

-- the same over one line
abbrev pub IsLineRun : List (Op × Reply) → List ℕ → List ℕ → Type 0
IsLineRun [] old new = new ≡ old
IsLineRun (pair ∷ pairs) old new = (pair.1 ≡ reply_of old pair.0) × IsLineRun pairs (line_after old pair.0) new

-- ---- memories whose lines have versions

-- the stamped line of a number: zero words at version 0 if there is none
abbrev pub stamped_at : List Stamped → ℕ → Stamped
stamped_at contents line = slice_index_or contents line zero_stamped

-- the words alone
abbrev pub words_of_lines : List Stamped → List (List ℕ)
words_of_lines contents = map (λ stamped. stamped.line) contents

-- the operation's line is what it becomes by the operation, and every other line stays
abbrev pub contents_after : List Stamped → Op → List Stamped
contents_after contents op = slice_set contents op.line (after (stamped_at contents op.line) op)
