-- What each operation does to its word, and what it answers. The names of the lock subcommands are those of
-- IEEE 1212-1991; the effects are this project's own table.
use Rattle.std.specs.Prelude.{ℕ, nat_lt, ◌&&◌, ◌+◌, ◌%◌, ◌^◌, Bool, true, false, ◌==◌, if◌then◌else◌, bit_and, bit_or, IsTrue}
use Rattle.std.specs.Int.{w64, bit_not}
use Rattle.sci_words.specs.declared.operation.LockOp.{LockOp}
use Rattle.sci_words.specs.declared.operation.LockOp.TheVariants.{MaskSwap, CompareSwap, FetchAdd, BoundedAdd, WrapAdd}
use Rattle.sci_words.specs.declared.operation.{Act.{Act, TheVariants.{Load, Store, Lock}}, Op.{Op}, Reply.{Reply}}
use Rattle.sci_words.specs.declared.operation.Reply.TheVariants.{Stored, Got}

-- the sum of two words, modulo 2^64
abbrev pub word_sum : ℕ → ℕ → ℕ
word_sum a b = (a + b) % 2 ^ 64

-- the word that a lock operation leaves, after the word old
abbrev pub locked_word : LockOp → ℕ → ℕ
locked_word (MaskSwap arg datum) old = bit_or (bit_and datum arg) (bit_and old (bit_not w64 arg))
locked_word (CompareSwap arg datum) old = if old == arg then datum else old
locked_word (FetchAdd datum) old = word_sum old datum
locked_word (BoundedAdd arg datum) old = if old == arg then old else word_sum old datum
locked_word (WrapAdd arg datum) old = if old == arg then datum else word_sum old datum

-- the word that is left, and the reply, of what is done to the word old
abbrev pub effect_of_act : Act → ℕ → ℕ × Reply
effect_of_act Load old = (old, Got old)
effect_of_act (Store word) old = (word, Stored)
effect_of_act (Lock lock) old = (locked_word lock old, Got old)

-- the new word and the reply of an operation on the word old
abbrev pub effect : Op → ℕ → ℕ × Reply
effect op old = effect_of_act op.act old

-- a store or a lock operation makes the next version of its line, also if the word keeps its value
abbrev pub makes_version : Act → Bool
makes_version Load = false
makes_version (Store word) = true
makes_version (Lock lock) = true

abbrev pub is_maker : Op → Bool
is_maker op = makes_version op.act

abbrev pub IsMaker : Op → Type 0
IsMaker op = IsTrue (is_maker op)

-- whether a number is a word
abbrev pub is_word : ℕ → Bool
is_word n = nat_lt n (2 ^ 64)

-- whether each operand is a word
abbrev pub are_words : LockOp → Bool
are_words (MaskSwap arg datum) = is_word arg && is_word datum
are_words (CompareSwap arg datum) = is_word arg && is_word datum
are_words (FetchAdd datum) = is_word datum
are_words (BoundedAdd arg datum) = is_word arg && is_word datum
are_words (WrapAdd arg datum) = is_word arg && is_word datum

abbrev pub has_words : Act → Bool
has_words Load = true
has_words (Store word) = is_word word
has_words (Lock lock) = are_words lock
