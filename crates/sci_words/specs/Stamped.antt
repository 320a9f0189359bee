-- What a stamped line becomes by an operation.
use Rattle.std.specs.Prelude.{ℕ, ◌+◌, List, if◌then◌else◌, slice_index, slice_set, replicate}
use Rattle.sci_words.specs.declared.{limits.TheConstants.{WORDS_PER_LINE}, operation.{Op.{Op}, Reply.{Reply}}}
use Rattle.sci_words.specs.{declared.stamped.Stamped.{Stamped}, Operation.{effect, is_maker}}

-- the reply of an operation to a line of these words
abbrev pub reply_of : List ℕ → Op → Reply
reply_of words op = (effect op (slice_index words op.word)).1

-- the operation's word becomes the effect's new word, and every other word stays
abbrev pub line_after : List ℕ → Op → List ℕ
line_after words op = slice_set words op.word (effect op (slice_index words op.word)).0

-- the line by the effect, with the next version for a maker and the same version for a load
abbrev pub after : Stamped → Op → Stamped
after stamped op = record {
  line = line_after stamped.line op;
  version = if is_maker op then stamped.version + 1 else stamped.version;
}

-- eight zero words at version 0
abbrev pub zero_line : List ℕ
zero_line = replicate WORDS_PER_LINE 0

abbrev pub zero_stamped : Stamped
zero_stamped = record { line = zero_line; version = 0 }
