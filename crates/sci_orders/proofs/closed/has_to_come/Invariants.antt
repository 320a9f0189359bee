-- None of the operations so far is still to come to the line.
use Rattle.std.proofs.Common.{◌≡◌, ◌<◌, ℕ, false}
use Rattle.sci_orders.specs.Eager.{comes_to}
use Rattle.sci_orders.proofs.closed.has_to_come.Given as goal

abbrev pub invariant-loop-i : goal.invariant-loop-i
invariant-loop-i l = (k : ℕ) → k < l.i → comes_to l.own l.issued l.line k ≡ false
