use Rattle.sci_fair.proofs.Looks.{turn_looks}
use Rattle.sci_fair.proofs.turns.turns_look_at_each_lane.Goals as goal

pub returns : goal.returns
returns c = turn_looks
