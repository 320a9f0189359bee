use Rattle.sci_policy.proofs.PolicyLaws.{joins_first}
use Rattle.sci_policy.proofs.laws.joins_come_first.Goals as goal

pub returns : goal.returns
returns c = joins_first
