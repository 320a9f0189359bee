-- No operation of the nodes so far leads there.
use Rattle.std.proofs.Common.{◌≡◌, ◌<◌, ℕ, Some, length}
use Rattle.sci_orders.specs.Positions.{lists_of, own_of, position_of, step_at}
use Rattle.sci_orders.proofs.orders.Orders.event_between.Given as goal

abbrev pub invariant-loop-node : goal.invariant-loop-node
invariant-loop-node l =
    (m : ℕ) → m < l.node → (i : ℕ) → i < length (own_of (lists_of l.self.operations.now) m)
    → step_at (lists_of l.self.operations.now) l.self.window (position_of l.from) m i ≡ Some (position_of l.to) → ⊥
