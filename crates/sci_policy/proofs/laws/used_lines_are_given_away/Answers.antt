use Rattle.sci_policy.proofs.PolicyLaws.{used_given}
use Rattle.sci_policy.proofs.laws.used_lines_are_given_away.Goals as goal

pub returns : goal.returns
returns c = used_given
