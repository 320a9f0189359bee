-- The cache keeps its sizes.
use Rattle.std.proofs.Common.{arith}
use Rattle.sci_core.proofs.Step.{Caches.{same_either, same_accepting}, Nodes.{fits_kept, node_with_cache}}
use Rattle.sci_core.proofs.node.Node.accept.Goals as goal

pub invariant_of-self : goal.invariant_of-self
invariant_of-self c = grind (arith, same_either, same_accepting, fits_kept, node_with_cache)
