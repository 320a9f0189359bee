use Rattle.std.proofs.Common.{arith}
use Rattle.sci_judge.proofs.Refuted.{rules_out}
use Rattle.sci_judge.proofs.site.Site.judge.Goals as goal

pub returns-then-branch-2 : goal.returns-then-branch-2
returns-then-branch-2 c = grind (arith, rules_out)
