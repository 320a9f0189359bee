use Rattle.std.proofs.Common.{◌≡◌}
use Rattle.std.specs.List.{range_with_len}
use Rattle.sci_statistics.proofs.counting.shown.Given as goal

-- the numbers so far
abbrev pub invariant-loop-n : goal.invariant-loop-n
invariant-loop-n l = l.found.items ≡ range_with_len 0 l.n
