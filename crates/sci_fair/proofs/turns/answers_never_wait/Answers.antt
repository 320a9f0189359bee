use Rattle.sci_fair.proofs.{Betweens.{drained_between, opening_between, work_between}, Trace.{turn_ends}}
use Rattle.sci_fair.proofs.turns.answers_never_wait.Goals as goal

pub returns : goal.returns
returns c = record { first = opening_between; drained = drained_between; turns = turn_ends; works = work_between }
