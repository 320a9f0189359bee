use Rattle.std.proofs.Common.{◌≡◌, ℕ, ◌<◌, length}
use Rattle.sci_history.specs.Memory.{stamped_at}
use Rattle.sci_c.proofs.journal.put_same.Given as goal

-- the contents so far are the same
abbrev pub invariant-loop-line : goal.invariant-loop-line
invariant-loop-line l = record {
  long : length l.copy ≡ length l.contents;
  same : (k : ℕ) → k < l.line → stamped_at l.copy k ≡ stamped_at l.contents k;
}
