use Rattle.sci_history.proofs.LawLemmas.{run-function}
use Rattle.sci_history.proofs.laws.runs_are_functions.Goals as goal

pub returns : goal.returns
returns c = run-function
