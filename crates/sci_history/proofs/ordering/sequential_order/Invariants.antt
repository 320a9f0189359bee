use Rattle.std.proofs.Common.{◌<◌, ◌≤◌, ℕ, length, get_or}
use Rattle.sci_history.specs.Placed.{log_of}
use Rattle.sci_history.proofs.ordering.sequential_order.Given as goal

-- nothing is left of the logs so far
abbrev pub invariant-loop-node : goal.invariant-loop-node
invariant-loop-node l = (m : ℕ) → m < l.node → length (log_of l.logs m) ≤ get_or l.next m 0
