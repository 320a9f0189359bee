-- None of the operations so far waits on the line.
use Rattle.std.proofs.Common.{◌≡◌, ◌<◌, ℕ, false}
use Rattle.sci_orders.specs.Eager.{waits_on}
use Rattle.sci_orders.proofs.closed.has_waiting.Given as goal

abbrev pub invariant-loop-j : goal.invariant-loop-j
invariant-loop-j l = (k : ℕ) → k < l.j → waits_on l.own l.answers l.line k ≡ false
