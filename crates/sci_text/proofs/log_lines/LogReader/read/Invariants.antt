use Rattle.std.proofs.Common.{ℕ, List, length}
use Rattle.sci_text.specs.LogReading.{HasRead}
use Rattle.sci_text.proofs.log_lines.LogReader.read.Given as goal

-- what was read of any input is what was read of it before, and the lines since
abbrev pub invariant-loop-rest : goal.invariant-loop-rest
invariant-loop-rest l = record {
  so_far : (input : List ℕ) → HasRead input l.fn.self l.fn.bytes → HasRead input l.self l.rest;
}

abbrev pub decreases-loop-rest : goal.decreases-loop-rest
decreases-loop-rest l = length l.rest
