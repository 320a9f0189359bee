use Rattle.std.proofs.Common.{take}
use Rattle.std.specs.List.{flat_map}
use Rattle.sci_json.specs.Members.{Adds}
use Rattle.sci_statistics.specs.StatsJson.{line_object}
use Rattle.sci_statistics.proofs.stats_json.write_lines.Given as goal

-- the lines so far
abbrev pub invariant-loop-line : goal.invariant-loop-line
invariant-loop-line l = Adds l.fn.out l.out (flat_map (line_object l.passages) (take l.line-index l.lines))
