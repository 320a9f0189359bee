-- Nothing is pending at the nodes and on the lines so far.
use Rattle.std.proofs.Common.{◌≡◌, ◌<◌, ℕ, None}
use Rattle.sci_core.specs.{Core.{node_at}, Node.{pending_on}}
use Rattle.sci_core.proofs.machine.Machine.next_pending.Given as goal

abbrev pub invariant-nodes : goal.invariant-nodes
invariant-nodes l = (n line : ℕ) → n < l.node → line < l.self.size.lines → pending_on (node_at l.self n) line ≡ None
