use Rattle.std.proofs.Common.{arith}
use Rattle.sci_orders.proofs.{Copies.{own_is}, Places.{flat_more}}
use Rattle.sci_allowed.proofs.Replies.{node_replied}
use Rattle.sci_allowed.proofs.outcome.replies_of.Goals as goal

pub loop-node-preserved : goal.loop-node-preserved
loop-node-preserved c = grind (arith, own_is, node_replied, flat_more)
