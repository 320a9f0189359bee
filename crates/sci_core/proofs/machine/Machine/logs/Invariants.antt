-- The logs of the nodes so far are there, and the others are empty.
use Rattle.std.proofs.Common.{◌≡◌, ℕ, nat_lt, if◌then◌else◌, [], length}
use Rattle.sci_history.specs.Placed.{log_of}
use Rattle.sci_core.specs.Core.{node_at}
use Rattle.sci_core.proofs.machine.Machine.logs.Given as goal

abbrev pub invariant-loop-n : goal.invariant-loop-n
invariant-loop-n l = (length l.logs ≡ 16) × ((k : ℕ) → log_of l.logs k ≡ if nat_lt k l.n then (node_at l.self-inside.state k).log else [])
