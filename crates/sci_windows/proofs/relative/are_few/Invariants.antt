use Rattle.std.proofs.Common.{ℕ, ◌<◌, ◌≤◌, length}
use Rattle.sci_history.specs.Placed.{log_of}
use Rattle.sci_windows.proofs.relative.are_few.Given as goal

-- no log so far has more
abbrev pub invariant-loop-node : goal.invariant-loop-node
invariant-loop-node l = (node : ℕ) → node < l.node → length (log_of l.logs node) ≤ 4294967296
