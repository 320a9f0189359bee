-- This many events were made, and each pending operation takes nine at most.
use Rattle.sci_core.specs.Settling.{pending_count}
use Rattle.sci_core.proofs.Settling.PendingRuns.{Worked}
use Rattle.sci_core.proofs.machine.Machine.settle.Given as goal

abbrev pub invariant-operations : goal.invariant-operations
invariant-operations l = Worked l.fn.self l.self l.count

abbrev pub decreases-operations : goal.decreases-operations
decreases-operations l = pending_count l.self
