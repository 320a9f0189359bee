-- The events so far lead from a standing of a level to the last one, if the last event comes first.
use Rattle.std.proofs.Common.{◌≡◌, ◌-◌, length, reverse}
use Rattle.sci_orders.specs.{Eager.{IsFoundIn}, Positions.{lists_of, position_of}, Ways.{LeadsTo}}
use Rattle.sci_orders.proofs.orders.Orders.order_through.Given as goal

abbrev pub invariant-loop-taken : goal.invariant-loop-taken
invariant-loop-taken l = record {
  leads : LeadsTo (lists_of l.self.operations.now) l.self.window (position_of l.at) (reverse l.order.items) (position_of l.last);
  long : length l.order.items ≡ l.taken;
  reached : IsFoundIn l.extent.lines (lists_of l.self.operations.now) l.self.window (length l.levels - l.taken) (position_of l.at);
}
