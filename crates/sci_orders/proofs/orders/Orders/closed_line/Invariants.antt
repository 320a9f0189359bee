-- None of the lines so far is closed.
use Rattle.std.proofs.Common.{◌≡◌, ◌<◌, ℕ, false}
use Rattle.sci_orders.specs.{Eager.{is_closed}, Positions.{lists_of, position_of}}
use Rattle.sci_orders.proofs.orders.Orders.closed_line.Given as goal

abbrev pub invariant-loop-line : goal.invariant-loop-line
invariant-loop-line l = (k : ℕ) → k < l.line → is_closed (lists_of l.self.operations.now) (position_of l.standing) k ≡ false
