-- This many moves were made, and the weight of what is under way fell by as much.
use Rattle.sci_core.specs.Draining.{weight}
use Rattle.sci_core.proofs.Settling.Moves.{Drained}
use Rattle.sci_core.proofs.machine.Machine.drain.Given as goal

abbrev pub invariant-moves : goal.invariant-moves
invariant-moves l = Drained l.initial.self l.self l.count

abbrev pub decreases-moves : goal.decreases-moves
decreases-moves l = weight l.self
