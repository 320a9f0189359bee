-- Setting an element of the front sets it in the front.
use Rattle.std.proofs.{Common.{arith}, lemmas.List.{length-take}}
use Rattle.std.proofs.Math.Seq.{take-set-lt}
use Rattle.sci_history.proofs.last.Last.set.Goals as goal

pub returns : goal.returns
returns c = grind (arith, length-take, take-set-lt)
