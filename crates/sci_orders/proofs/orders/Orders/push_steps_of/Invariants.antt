-- What one step of each operation so far leads to was appended.
use Rattle.std.{proofs.Common.{◌≡◌, ◌++◌, map}, specs.List.{filter_map, range_with_len}}
use Rattle.sci_orders.specs.Positions.{lists_of, position_of, step_on}
use Rattle.sci_orders.proofs.orders.Orders.push_steps_of.Given as goal

abbrev pub invariant-loop-i : goal.invariant-loop-i
invariant-loop-i l =
    map position_of l.next.items
    ≡ map position_of l.fn.next.items ++ filter_map (step_on (lists_of l.self.operations.now) l.self.window (position_of l.standing) l.among.line l.among.node)
    (range_with_len 0 l.i)
