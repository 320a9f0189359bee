use Rattle.sci_policy.proofs.PolicyLaws.{due_claims}
use Rattle.sci_policy.proofs.laws.due_lines_can_claim.Goals as goal

pub returns : goal.returns
returns c = due_claims
