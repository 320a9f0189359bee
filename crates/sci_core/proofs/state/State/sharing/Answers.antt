-- If no authority stands in the list, the home has the contents, and there is none.
use Rattle.std.proofs.Common.{arith}
use Rattle.sci_core.proofs.Shape.Shared.{none_may_change}
use Rattle.sci_core.proofs.state.State.sharing.Goals as goal

pub unreachable-requires : goal.unreachable-requires
unreachable-requires c = grind (arith, none_may_change)

pub returns-clause-none : goal.returns-clause-none
returns-clause-none c = grind (arith, none_may_change)
