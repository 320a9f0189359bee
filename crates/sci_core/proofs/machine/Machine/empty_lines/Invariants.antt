-- Nothing is under way, and four events for each round lower the number of rounds that are left.
use Rattle.sci_core.specs.Rounds.{rank}
use Rattle.sci_core.proofs.Settling.EmptyRuns.{Emptied}
use Rattle.sci_core.proofs.machine.Machine.empty_lines.Given as goal

abbrev pub invariant-rounds : goal.invariant-rounds
invariant-rounds l = Emptied l.initial.self l.self l.count

abbrev pub decreases-rounds : goal.decreases-rounds
decreases-rounds l = rank l.self
