use Rattle.std.proofs.Common.{◌≡◌, ◌<◌, ℕ, List, false, eqb, length, arith}
use Rattle.std.proofs.lemmas.Bool.Decides.{nat_tests}
use Rattle.sci_axe.proofs.Lines.{known_more, read_more, split_shorter}
use Rattle.sci_axe.proofs.reading.trace_of.Goals as goal

not_over : (rest : List ℕ) → false ≡ eqb (length rest) 0 → 0 < length rest
not_over rest some = grind (arith, nat_tests)

pub loop-rest-smaller : goal.loop-rest-smaller
loop-rest-smaller c = grind (arith, not_over, split_shorter)

pub loop-rest-preserved : goal.loop-rest-preserved
loop-rest-preserved c = grind (arith, not_over, read_more, known_more)
