use Rattle.sci_windows.proofs.Turns.{AreTaken}
use Rattle.sci_windows.proofs.back.in_turn.Given as goal

-- what is taken of each log so far
abbrev pub invariant-loop-node : goal.invariant-loop-node
invariant-loop-node l = AreTaken l.logs l.nodes l.next l.node-index l.made.items
