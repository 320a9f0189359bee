use Rattle.sci_policy.proofs.PolicyLaws.{kept_is_cread}
use Rattle.sci_policy.proofs.laws.only_creads_of_others_are_kept.Goals as goal

pub returns : goal.returns
returns c = kept_is_cread
