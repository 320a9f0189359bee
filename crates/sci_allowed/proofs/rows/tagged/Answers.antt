-- A binary search finds the outcome exactly if it is that of a run in order.
use Rattle.std.proofs.Common.{arith}
use Rattle.std.proofs.lemmas.List.{map-append}
use Rattle.sci_allowed.proofs.Searching.{found_is}
use Rattle.sci_allowed.proofs.rows.tagged.Goals as goal

pub loop-outcome-preserved : goal.loop-outcome-preserved
loop-outcome-preserved c = grind (arith, found_is, map-append)
