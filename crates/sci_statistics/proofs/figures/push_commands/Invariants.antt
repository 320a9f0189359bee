use Rattle.std.proofs.Common.{◌≡◌, ◌++◌, codes, map, take}
use Rattle.sci_statistics.specs.{StatsAnswer.{figures_text}, StatsRows.{command_row}}
use Rattle.sci_statistics.proofs.figures.push_commands.Given as goal

-- the commands so far
abbrev pub invariant-loop-command : goal.invariant-loop-command
invariant-loop-command l = l.out.items ≡ l.fn.out.items ++ figures_text (codes "packets.") (map (command_row l.passages) (take l.command-index l.commands))
