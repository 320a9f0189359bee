use Rattle.std.proofs.Common.{arith}
use Rattle.sci_history.proofs.Shortening.{next_comes}
use Rattle.sci_history.proofs.shortcuts.farthest.Goals as goal

pub loop-other-init : goal.loop-other-init
loop-other-init c = grind (arith, next_comes)
