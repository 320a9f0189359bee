use Rattle.std.proofs.Common.{ℕ, ◌<◌, ◌≤◌}
use Rattle.sci_history.specs.Memory.{stamped_at}
use Rattle.sci_c.proofs.journal.are_early.Given as goal

-- the versions so far are early
abbrev pub invariant-loop-line : goal.invariant-loop-line
invariant-loop-line l = (k : ℕ) → k < l.line → (stamped_at l.contents k).version ≤ 9223372036854775808
