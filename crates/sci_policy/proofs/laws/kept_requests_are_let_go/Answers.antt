use Rattle.sci_policy.proofs.PolicyLaws.{kept_awaits_home}
use Rattle.sci_policy.proofs.laws.kept_requests_are_let_go.Goals as goal

pub returns : goal.returns
returns c = kept_awaits_home
