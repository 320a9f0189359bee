-- An ask that may be made is about a line of the cache, which makes it and keeps its sizes.
use Rattle.std.proofs.Common.{arith}
use Rattle.sci_core.proofs.Step.{Caches.{same_asked}, Nodes.{fits_kept, node_with_cache}, Asks.{may_ask}}
use Rattle.sci_core.proofs.node.Node.apply_ask.Goals as goal

pub invariant_of-self : goal.invariant_of-self
invariant_of-self c = grind (arith, may_ask, same_asked, fits_kept, node_with_cache)
