-- None of the standings so far leads there.
use Rattle.std.proofs.Common.{◌<◌, ℕ, get_or}
use Rattle.sci_orders.specs.{Positions.{IsStep, lists_of, position_of}, declared.standing.Standing.{Standing}}
use Rattle.sci_orders.proofs.orders.Orders.back_from.Given as goal

abbrev pub invariant-loop-place : goal.invariant-loop-place
invariant-loop-place l =
    (k : ℕ) (d : Standing) → k < l.place
    → IsStep (lists_of l.self.operations.now) l.self.window (position_of (get_or l.level k d)) (position_of l.to) → ⊥
