use Rattle.std.proofs.Common.{◌≡◌, ◌++◌, take}
use Rattle.std.specs.List.{flat_map}
use Rattle.sci_statistics.specs.StatsAnswer.{node_part}
use Rattle.sci_statistics.proofs.counting.push_nodes.Given as goal

-- the nodes so far
abbrev pub invariant-loop-node : goal.invariant-loop-node
invariant-loop-node l = l.out.items ≡ l.fn.out.items ++ flat_map (node_part l.passages) (take l.node-index l.nodes)
