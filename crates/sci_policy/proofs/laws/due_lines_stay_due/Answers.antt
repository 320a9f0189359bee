use Rattle.sci_policy.proofs.PolicyLaws.{due_stays}
use Rattle.sci_policy.proofs.laws.due_lines_stay_due.Goals as goal

pub returns : goal.returns
returns c = due_stays
