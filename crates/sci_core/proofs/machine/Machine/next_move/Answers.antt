-- What is found can be brought on.
use Rattle.std.proofs.Common.{arith}
use Rattle.sci_core.proofs.Settling.Moves.{accept_found, nothing_found, reply_found, serve_found}
use Rattle.sci_core.proofs.machine.Machine.next_move.Goals as goal

pub returns-in-Some-clause-enabled : goal.returns-in-Some-clause-enabled
returns-in-Some-clause-enabled c = reply_found c.args.self.now c.in-Some.node c.in-Some.ensures.below c.in-Some.ensures.waits

pub returns-in-Some-full_lane-clause-enabled : goal.returns-in-Some-full_lane-clause-enabled
returns-in-Some-full_lane-clause-enabled c = grind (arith, accept_found)

pub returns-in-Some-full_lane-2-clause-enabled : goal.returns-in-Some-full_lane-2-clause-enabled
returns-in-Some-full_lane-2-clause-enabled c = grind (arith, serve_found)

pub returns-in-None-clause-none : goal.returns-in-None-clause-none
returns-in-None-clause-none c = grind (arith, nothing_found)
