-- No node so far may issue.
use Rattle.std.proofs.Common.{ℕ, ◌<◌}
use Rattle.sci_orders.specs.{Eager.{MayIssue}, Positions.{lists_of, position_of}}
use Rattle.sci_orders.proofs.orders.Orders.first_issue.Given as goal

abbrev pub invariant-loop-n : goal.invariant-loop-n
invariant-loop-n l = (m : ℕ) → m < l.n → MayIssue (lists_of l.self.operations.now) l.self.window (position_of l.standing) m → ⊥
