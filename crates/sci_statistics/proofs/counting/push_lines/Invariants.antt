use Rattle.std.proofs.Common.{◌≡◌, ◌++◌, take}
use Rattle.std.specs.List.{flat_map}
use Rattle.sci_statistics.specs.StatsAnswer.{line_part}
use Rattle.sci_statistics.proofs.counting.push_lines.Given as goal

-- the lines so far
abbrev pub invariant-loop-line : goal.invariant-loop-line
invariant-loop-line l = l.out.items ≡ l.fn.out.items ++ flat_map (line_part l.passages) (take l.line-index l.lines)
