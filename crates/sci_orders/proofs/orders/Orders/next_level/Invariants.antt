-- What one step from the standings so far leads to was collected.
use Rattle.std.proofs.Common.{map, take}
use Rattle.sci_orders.specs.{Eager.{AreStepsFrom}, Positions.{lists_of, position_of}}
use Rattle.sci_orders.proofs.orders.Orders.next_level.Given as goal

abbrev pub invariant-loop-standing : goal.invariant-loop-standing
invariant-loop-standing l =
    AreStepsFrom (lists_of l.self.operations.now) l.self.window (map position_of (take l.standing-index l.level)) (map position_of l.next.items)
