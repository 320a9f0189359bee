use Rattle.sci_orders.proofs.Wide.{any_order}
use Rattle.sci_orders.proofs.laws.each_whole_order_is_an_order.Goals as goal

pub returns : goal.returns
returns c = any_order
