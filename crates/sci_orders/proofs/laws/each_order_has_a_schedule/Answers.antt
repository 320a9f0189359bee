use Rattle.sci_orders.proofs.Turns.{order_made, order_seen}
use Rattle.sci_orders.proofs.laws.each_order_has_a_schedule.Goals as goal

pub returns-clause-seen : goal.returns-clause-seen
returns-clause-seen c = order_seen

pub returns-clause-enabled : goal.returns-clause-enabled
returns-clause-enabled c = order_made
