use Rattle.sci_statistics.proofs.Rising.{HasRisen}
use Rattle.sci_statistics.proofs.levels.LevelFigures.of.Given as goal

abbrev pub invariant-loop-it : goal.invariant-loop-it
invariant-loop-it l = HasRisen l.level l.passages l.it-index l.begun l.ended l.figures.greatest l.figures.total
