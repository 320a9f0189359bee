use Rattle.std.proofs.Common.{map, take}
use Rattle.sci_json.specs.Members.{Adds}
use Rattle.sci_statistics.specs.{StatsJson.{row_members}, StatsRows.{command_row}}
use Rattle.sci_statistics.proofs.stats_json.write_commands.Given as goal

-- the commands so far
abbrev pub invariant-loop-command : goal.invariant-loop-command
invariant-loop-command l = Adds l.fn.out l.out (row_members (map (command_row l.passages) (take l.command-index l.commands)))
