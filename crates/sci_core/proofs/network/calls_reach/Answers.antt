use Rattle.std.proofs.Common.{arith}
use Rattle.sci_core.proofs.NetworkLaws.{asks_reach, issues_reach, performs_reach, replies_reach, takable_any, takes_any}
use Rattle.sci_core.proofs.network.calls_reach.Goals as goal

pub returns : goal.returns
returns c = grind (arith, issues_reach, performs_reach, asks_reach, replies_reach, takable_any, takes_any)
