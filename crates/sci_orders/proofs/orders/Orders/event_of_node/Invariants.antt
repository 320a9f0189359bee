-- None of the operations so far leads there.
use Rattle.std.proofs.Common.{◌≡◌, ◌<◌, ℕ, Some}
use Rattle.sci_orders.specs.Positions.{lists_of, position_of, step_at}
use Rattle.sci_orders.proofs.orders.Orders.event_of_node.Given as goal

abbrev pub invariant-loop-place : goal.invariant-loop-place
invariant-loop-place l =
    (j : ℕ) → j < l.place → step_at (lists_of l.self.operations.now) l.self.window (position_of l.from) l.node j ≡ Some (position_of l.to) → ⊥
