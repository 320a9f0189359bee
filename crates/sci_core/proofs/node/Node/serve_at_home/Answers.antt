-- What the line's home serves is what the node serves at it.
use Rattle.std.proofs.Common.{arith}
use Rattle.std.proofs.lemmas.List.{get_or_read}
use Rattle.sci_core.proofs.Step.{Nodes.{home_below}, Asks.{home_served}}
use Rattle.sci_core.proofs.node.Node.serve_at_home.Goals as goal

pub returns-clause-served : goal.returns-clause-served
returns-clause-served c = grind (arith, home_below, get_or_read, home_served)
