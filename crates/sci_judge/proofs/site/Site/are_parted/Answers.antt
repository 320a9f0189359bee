use Rattle.std.proofs.Common.{arith}
use Rattle.std.proofs.lemmas.Bool.{eqb-true}
use Rattle.sci_judge.proofs.site.Site.are_parted.Goals as goal

pub returns-then-claim-low : goal.returns-then-claim-low
returns-then-claim-low c = grind (arith, eqb-true)
