-- The contents of the lines so far are there.
use Rattle.std.proofs.Common.{◌≡◌, ℕ, ◌<◌, length}
use Rattle.sci_history.specs.Memory.{stamped_at}
use Rattle.sci_core.specs.Sharing.{last_at}
use Rattle.sci_core.proofs.machine.Machine.last.Given as goal

abbrev pub invariant-loop-line : goal.invariant-loop-line
invariant-loop-line l = (length l.last ≡ l.lines) × ((k : ℕ) → k < l.line → stamped_at l.last k ≡ last_at l.self-inside.state k)
