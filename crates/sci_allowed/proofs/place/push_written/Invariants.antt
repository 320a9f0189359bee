use Rattle.std.proofs.Common.{◌≡◌, ◌++◌, ℕ, List}
use Rattle.sci_allowed.specs.Outcome.{IsWritten}
use Rattle.sci_words.specs.declared.operation.Op.{Op}
use Rattle.sci_allowed.proofs.WrittenWords.{first_written}
use Rattle.sci_allowed.proofs.place.push_written.Given as goal

-- the words so far
abbrev pub invariant-loop-word : goal.invariant-loop-word
invariant-loop-word l =
    (operations : List (ℕ × Op)) → IsWritten operations l.written → l.places.items ≡ l.fn.places.items ++ first_written operations l.line l.word
