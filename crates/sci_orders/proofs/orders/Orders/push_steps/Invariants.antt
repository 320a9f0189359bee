-- What one step of each node so far leads to was appended.
use Rattle.std.{proofs.Common.{◌≡◌, ◌++◌, map}, specs.List.{flat_map, range_with_len}}
use Rattle.sci_orders.specs.Positions.{lists_of, position_of, steps_on}
use Rattle.sci_orders.proofs.orders.Orders.push_steps.Given as goal

abbrev pub invariant-loop-node : goal.invariant-loop-node
invariant-loop-node l =
    map position_of l.next.items
    ≡ map position_of l.fn.next.items ++ flat_map (steps_on (lists_of l.self.operations.now) l.self.window (position_of l.standing) l.line)
    (range_with_len 0 l.node)
