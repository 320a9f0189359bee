use Rattle.sci_fair.proofs.Works.{drained_works, opening_works, turn_works, work_good}
use Rattle.sci_fair.proofs.progress.machines_work_by_turns.Goals as goal

pub returns : goal.returns
returns c = record { first = opening_works; drained = drained_works; turns = turn_works; works = work_good }
