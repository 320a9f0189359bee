use Rattle.std.proofs.Common.{◌≡◌, ◌++◌, filter, take}
use Rattle.std.specs.List.{flat_map}
use Rattle.sci_statistics.specs.{PairNames.{has_never_come}, TransitionsAnswer.{never_line}}
use Rattle.sci_statistics.proofs.coverage_lines.push_nevers.Given as goal

-- the pairs so far
abbrev pub invariant-loop-pair : goal.invariant-loop-pair
invariant-loop-pair l = l.out.items ≡ l.fn.out.items ++ flat_map never_line (filter (has_never_come l.coverage) (take l.pair-index l.pairs))
