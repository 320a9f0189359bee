use Rattle.sci_history.proofs.LawLemmas.{run-append, run-then}
use Rattle.sci_history.proofs.laws.runs_compose.Goals as goal

pub returns : goal.returns
returns c = λ xs ys old new. (run-append xs ys old new, λ h. run-then xs ys old h.0 new h.1 h.2)
