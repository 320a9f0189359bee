use Rattle.sci_fair.proofs.Opens.{drained_open, opening_open, turn_open, work_open}
use Rattle.sci_fair.proofs.turns.turns_keep_lanes_open.Goals as goal

pub returns : goal.returns
returns c = record { first = opening_open; drained = drained_open; turns = turn_open; works = work_open }
