use Rattle.sci_lanes.proofs.Uniqueness.{one_state}
use Rattle.sci_lanes.proofs.laws.words_show_one_state.Goals as goal

pub returns : goal.returns
returns c x y words views rx ry sizes s t = one_state x y words views rx ry sizes s t
