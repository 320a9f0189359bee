use Rattle.std.proofs.Common.{arith}
use Rattle.sci_windows.proofs.Loops.{few_all, holds_next}
use Rattle.sci_windows.proofs.relative.are_few.Goals as goal

pub loop-node-preserved : goal.loop-node-preserved
loop-node-preserved c = grind (arith, holds_next)

pub returns : goal.returns
returns c = grind (arith, few_all)
