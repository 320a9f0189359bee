use Rattle.std.proofs.Common.{◌≡◌, ℕ, ◌<◌, length}
use Rattle.sci_history.specs.Memory.{stamped_at}
use Rattle.sci_core.specs.Sharing.{last_at}
use Rattle.sci_c.proofs.machine.put_last.Given as goal

-- the contents of the lines so far are there
abbrev pub invariant-loop-line : goal.invariant-loop-line
invariant-loop-line l = record {
  long : length l.last ≡ l.machine.size.lines;
  there : (k : ℕ) → k < l.line → stamped_at l.last k ≡ last_at l.machine k;
}
