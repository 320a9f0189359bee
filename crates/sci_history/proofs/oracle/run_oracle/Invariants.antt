use Rattle.std.proofs.Common.{take}
use Rattle.sci_history.proofs.OracleSteps.{Ran}
use Rattle.sci_history.proofs.oracle.run_oracle.Given as goal

-- the logs and the memory are those of the script so far
abbrev pub invariant-loop-node : goal.invariant-loop-node
invariant-loop-node l = Ran l.lines (take l.node-index l.script) l.logs l.memory
