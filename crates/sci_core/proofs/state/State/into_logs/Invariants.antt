-- The logs of the nodes so far are there, and the others are empty; the other nodes are still to come.
use Rattle.std.proofs.Common.{◌≡◌, ◌++◌, ℕ, nat_lt, if◌then◌else◌, [], length}
use Rattle.sci_history.specs.Placed.{log_of}
use Rattle.sci_core.specs.Core.{core_of, node_at}
use Rattle.sci_core.proofs.state.State.into_logs.Given as goal

abbrev pub invariant-loop-node : goal.invariant-loop-node
invariant-loop-node l =
    let all = l.self-inside in
    (length l.logs ≡ 16)
    × (l.yielded ++ l.node-iterator.rest.items ≡ all.nodes.items)
    × ((k : ℕ) → log_of l.logs k
    ≡ if nat_lt k (length l.yielded) then (node_at (core_of all.extent all.limit all.nodes.items all.lanes.items) k).log else [])
