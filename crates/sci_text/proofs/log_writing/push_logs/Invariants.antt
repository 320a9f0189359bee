use Rattle.std.proofs.Common.{◌≡◌, ◌++◌, take}
use Rattle.sci_text.specs.Log.{entry_lines}
use Rattle.sci_text.proofs.log_writing.push_logs.Given as goal

-- the logs so far
abbrev pub invariant-loop-node : goal.invariant-loop-node
invariant-loop-node l = l.out.items ≡ l.fn.out.items ++ entry_lines (take l.node l.logs)
