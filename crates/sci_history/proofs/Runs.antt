-- Runs on a memory, and on the words of a memory whose lines have versions.
use Rattle.std.proofs.{Common.{◌≡◌, ℕ, zero, suc, List, [], ◌∷◌, refl, arith}, lemmas.List.{map-set}}
use Rattle.sci_words.specs.declared.{operation.Op.{Op}, stamped.Stamped.{Stamped}}
use Rattle.sci_history.specs.Memory.{line_at, stamped_at, words_of_lines, memory_after, contents_after}

pub line_at-words_of_lines : (contents : List Stamped) (line : ℕ) → line_at (words_of_lines contents) line ≡ (stamped_at contents line).line
line_at-words_of_lines [] line = refl
line_at-words_of_lines (s ∷ contents) zero = refl
line_at-words_of_lines (s ∷ contents) (suc line) = line_at-words_of_lines contents line

pub words_of_lines-contents_after : (contents : List Stamped) (op : Op)
    → words_of_lines (contents_after contents op) ≡ memory_after (words_of_lines contents) op
words_of_lines-contents_after contents op = rw (map-set, line_at-words_of_lines contents op.line) refl

pub same_stamped : (a b : Stamped) → a.line ≡ b.line → a.version ≡ b.version → a ≡ b
same_stamped a b lines versions = grind arith
