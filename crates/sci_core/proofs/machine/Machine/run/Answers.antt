-- Where memory is refused, the event is an Ask or a Reply that is enabled.
use Rattle.std.proofs.Common.{subst, arith}
use Rattle.sci_core.specs.Coherent.{IsCoherent}
use Rattle.sci_core.proofs.{ReachedLaws.{reached_coherent}, Step.Stops.{stopped}}
use Rattle.sci_core.proofs.machine.Machine.run.Goals as goal

pub returns-in-Err-Memory-clause-err : goal.returns-in-Err-Memory-clause-err
returns-in-Err-Memory-clause-err c = grind (arith, stopped)

pub returns-clause-coherent : goal.returns-clause-coherent
returns-clause-coherent c = subst IsCoherent c.self.view_is (reached_coherent c.self.inside.state c.self.invariant)
