use Rattle.std.proofs.Common.{arith}
use Rattle.sci_allowed.proofs.Shares.{shares_are}
use Rattle.sci_allowed.proofs.litmus.Litmus.of.Goals as goal

pub returns-clause-litmus : goal.returns-clause-litmus
returns-clause-litmus c = grind (arith, shares_are)
