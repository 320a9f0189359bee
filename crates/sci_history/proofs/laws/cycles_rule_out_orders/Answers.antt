use Rattle.sci_history.proofs.Cycles.{no_order_with_cycle}
use Rattle.sci_history.proofs.laws.cycles_rule_out_orders.Goals as goal

pub returns : goal.returns
returns c logs last steps cycle is = no_order_with_cycle logs last steps cycle is.0 is.1
