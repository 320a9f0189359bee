-- The nodes so far are not wanted.
use Rattle.std.proofs.Common.{◌≡◌, ◌<◌, ℕ, false}
use Rattle.sci_core.specs.{Rounds.{is_wanted}, Shape.{state_at}}
use Rattle.sci_core.proofs.machine.Machine.find.Given as goal

abbrev pub invariant-loop-n : goal.invariant-loop-n
invariant-loop-n l = (k : ℕ) → k < l.n → is_wanted l.wanted (state_at l.self l.line k) ≡ false
