use Rattle.std.proofs.Common.{◌≡◌, take}
use Rattle.std.specs.List.{filter}
use Rattle.sci_statistics.specs.Measures.{is_at}
use Rattle.sci_statistics.proofs.node_figures.at_node.Given as goal

-- those so far
abbrev pub invariant-loop-it : goal.invariant-loop-it
invariant-loop-it l = l.found.items ≡ filter (is_at l.node) (take l.it-index l.passages)
