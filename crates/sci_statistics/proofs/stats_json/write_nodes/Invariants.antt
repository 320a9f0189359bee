use Rattle.std.proofs.Common.{take}
use Rattle.std.specs.List.{flat_map}
use Rattle.sci_json.specs.Members.{Adds}
use Rattle.sci_statistics.specs.StatsJson.{node_object}
use Rattle.sci_statistics.proofs.stats_json.write_nodes.Given as goal

-- the nodes so far
abbrev pub invariant-loop-node : goal.invariant-loop-node
invariant-loop-node l = Adds l.fn.out l.out (flat_map (node_object l.passages) (take l.node-index l.nodes))
