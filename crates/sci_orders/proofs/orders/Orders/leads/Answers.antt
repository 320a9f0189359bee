-- What the step gives is found equal to the other standing, or isn't.
use Rattle.std.proofs.Common.{arith}
use Rattle.sci_orders.proofs.Ways.{leads_some}
use Rattle.sci_orders.proofs.orders.Orders.leads.Goals as goal

pub returns-in-Some : goal.returns-in-Some
returns-in-Some c = grind (arith, leads_some)
