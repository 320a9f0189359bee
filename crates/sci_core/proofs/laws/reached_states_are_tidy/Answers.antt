use Rattle.sci_core.proofs.Tidy.TidyRuns.{any_tidy}
use Rattle.sci_core.proofs.laws.reached_states_are_tidy.Goals as goal

pub returns : goal.returns
returns c = any_tidy
