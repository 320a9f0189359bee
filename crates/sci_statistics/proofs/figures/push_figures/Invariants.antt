use Rattle.std.proofs.Common.{◌≡◌, ◌++◌, map, take}
use Rattle.sci_statistics.specs.{StatsAnswer.{figures_text}, StatsRows.{named}}
use Rattle.sci_statistics.proofs.figures.push_figures.Given as goal

-- the figures so far
abbrev pub invariant-loop-figure : goal.invariant-loop-figure
invariant-loop-figure l = l.out.items ≡ l.fn.out.items ++ figures_text l.group (map named (take l.figure-index l.figures))
