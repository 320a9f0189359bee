use Rattle.std.proofs.Common.{arith}
use Rattle.sci_judge.proofs.ForcedChecks.{one_access}
use Rattle.sci_judge.proofs.site.Site.comes_before.Goals as goal

pub returns-in-Some : goal.returns-in-Some
returns-in-Some c = grind (arith, one_access)
