use Rattle.sci_core.proofs.Tidy.Enabled.{any_accept_enabled}
use Rattle.sci_core.proofs.laws.front_answers_are_accepted.Goals as goal

pub returns : goal.returns
returns c = any_accept_enabled
