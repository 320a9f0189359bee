-- No cache has an entry of the lines so far.
use Rattle.std.proofs.Common.{◌≡◌, ◌<◌, ℕ}
use Rattle.sci_cache.specs.State.{Out}
use Rattle.sci_core.specs.Shape.{state_at}
use Rattle.sci_core.proofs.machine.Machine.next_ask.Given as goal

abbrev pub invariant-loop-line : goal.invariant-loop-line
invariant-loop-line l = (line n : ℕ) → line < l.line → state_at l.self line n ≡ Out
