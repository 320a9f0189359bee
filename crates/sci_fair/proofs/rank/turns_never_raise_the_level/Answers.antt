use Rattle.std.proofs.Common.{arith}
use Rattle.sci_fair.proofs.WholeTurns.{turn_kept, turned_level}
use Rattle.sci_fair.proofs.rank.turns_never_raise_the_level.Goals as goal

pub returns : goal.returns
returns c = grind (arith, turn_kept, turned_level)
