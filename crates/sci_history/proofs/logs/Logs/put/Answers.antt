-- One of sixteen logs is another, and the fifteen others stand.
use Rattle.std.proofs.lemmas.List.{map-set, length-map, length-set}
use Rattle.std.proofs.Common.{arith}
use Rattle.sci_history.proofs.Pushes.{own_set}
use Rattle.sci_history.proofs.logs.Logs.put.Goals as goal

pub returns : goal.returns
returns c = grind (arith, map-set)

pub invariant_of-self : goal.invariant_of-self
invariant_of-self c = grind (arith, length-map, length-set, map-set, own_set)
