use Rattle.std.proofs.Common.{map, take}
use Rattle.sci_json.specs.Members.{Adds}
use Rattle.sci_statistics.specs.{StatsJson.{row_members}, StatsRows.{named}}
use Rattle.sci_statistics.proofs.stats_json.write_rows.Given as goal

-- the figures so far
abbrev pub invariant-loop-row : goal.invariant-loop-row
invariant-loop-row l = Adds l.fn.out l.out (row_members (map named (take l.row-index l.rows)))
