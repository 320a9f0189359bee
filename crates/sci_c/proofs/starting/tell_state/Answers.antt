use Rattle.std.proofs.Common.{arith}
use Rattle.std.proofs.lemmas.List.{get_or-set_same, set-set}
use Rattle.sci_c.proofs.starting.tell_state.Goals as goal

pub returns-in-Home : goal.returns-in-Home
returns-in-Home c = grind (arith, set-set, get_or-set_same)

pub returns-in-Fresh : goal.returns-in-Fresh
returns-in-Fresh c = grind (arith, set-set, get_or-set_same)
