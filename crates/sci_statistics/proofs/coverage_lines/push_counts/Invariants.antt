use Rattle.std.proofs.Common.{◌≡◌, ◌++◌, filter, take}
use Rattle.std.specs.List.{flat_map}
use Rattle.sci_statistics.specs.{PairNames.{has_come}, TransitionsAnswer.{count_line}}
use Rattle.sci_statistics.proofs.coverage_lines.push_counts.Given as goal

-- the pairs so far
abbrev pub invariant-loop-pair : goal.invariant-loop-pair
invariant-loop-pair l = l.out.items ≡ l.fn.out.items ++ flat_map (count_line l.coverage) (filter (has_come l.coverage) (take l.pair-index l.pairs))
