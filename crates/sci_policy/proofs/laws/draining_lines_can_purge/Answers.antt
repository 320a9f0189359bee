use Rattle.sci_policy.proofs.PolicyLaws.{draining_purges}
use Rattle.sci_policy.proofs.laws.draining_lines_can_purge.Goals as goal

pub returns : goal.returns
returns c = draining_purges
