use Rattle.std.proofs.Common.{arith}
-- One more operation comes a step further, or can't.
use Rattle.sci_orders.proofs.{Places.{gives_none, gives_some}, orders.Orders.push_steps_of.Goals.{in-Some+in_ok-push, in_default}}
use Rattle.sci_orders.proofs.orders.Orders.push_steps_of.Goals as goal

pub loop-i-preserved : goal.loop-i-preserved
loop-i-preserved c = grind (arith, gives_some, in_default, gives_none)
