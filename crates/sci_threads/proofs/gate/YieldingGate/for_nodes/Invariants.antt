use Rattle.std.proofs.Common.{◌≡◌, length}
use Rattle.sci_threads.proofs.gate.YieldingGate.for_nodes.Given as goal

abbrev pub invariant-loop-node : goal.invariant-loop-node
invariant-loop-node l = length l.gates.items ≡ l._node
