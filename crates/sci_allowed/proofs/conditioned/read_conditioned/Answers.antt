use Rattle.std.proofs.Common.{arith}
use Rattle.sci_command.proofs.Refusals.{told_refusals}
use Rattle.sci_allowed.proofs.conditioned.read_conditioned.Goals as goal

pub returns-clause-fault : goal.returns-clause-fault
returns-clause-fault g c = grind (arith, told_refusals)
