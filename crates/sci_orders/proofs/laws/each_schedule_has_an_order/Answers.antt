use Rattle.sci_orders.proofs.Sound.{explained}
use Rattle.sci_orders.proofs.laws.each_schedule_has_an_order.Goals as goal

pub returns : goal.returns
returns c = explained
