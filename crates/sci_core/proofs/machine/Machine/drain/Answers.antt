-- Each move lowers the weight, and what is drained has none.
use Rattle.std.proofs.Common.{arith}
use Rattle.sci_core.proofs.Settling.Moves.{drained_more, drained_weighs, few_moves, move_weighs}
use Rattle.sci_core.proofs.ReachedLaws.{reached_coherent}
use Rattle.sci_core.proofs.machine.Machine.drain.Goals as goal

pub overflow_add-count : goal.overflow_add-count
overflow_add-count c = grind (arith, move_weighs, few_moves)

pub moves-smaller : goal.moves-smaller
moves-smaller c = grind (arith, move_weighs)

pub moves-preserved : goal.moves-preserved
moves-preserved c = drained_more c.args.self.now c.moves.self c.make.new.self c.in-Some.event c.moves.count c.moves.invariant c.next_move.ensures.reached
    c.in-Some.ensures.brings c.in_ok-make.ensures.ok

pub returns-clause-weight : goal.returns-clause-weight
returns-clause-weight c = grind (arith, drained_weighs)

pub returns-clause-coherent : goal.returns-clause-coherent
returns-clause-coherent c = reached_coherent c.moves.self c.next_move.ensures.reached
