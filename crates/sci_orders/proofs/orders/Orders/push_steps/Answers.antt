-- The first node that may issue does so, or one node more takes a step.
use Rattle.std.proofs.Common.{append_assoc, arith}
use Rattle.std.proofs.lemmas.List.{length-map, map-append}
use Rattle.sci_orders.proofs.{LevelSteps.{all_add, first_adds}, Places.{flat_more}}
use Rattle.sci_orders.proofs.orders.Orders.push_steps.Goals as goal

pub loop-node-preserved : goal.loop-node-preserved
loop-node-preserved c = grind (arith, append_assoc, flat_more)

pub returns-in-Some : goal.returns-in-Some
returns-in-Some c = grind (arith, first_adds, map-append)

pub returns : goal.returns
returns c = grind (arith, length-map, all_add)
