-- At the nodes so far no answer waits.
use Rattle.std.proofs.Common.{◌≡◌, ◌<◌, ℕ, None}
use Rattle.sci_core.specs.Core.{node_at}
use Rattle.sci_core.proofs.machine.Machine.waiting_node.Given as goal

abbrev pub invariant-loop-n : goal.invariant-loop-n
invariant-loop-n l = (k : ℕ) → k < l.n → (node_at l.self k).waiting ≡ None
