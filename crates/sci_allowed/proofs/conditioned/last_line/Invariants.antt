use Rattle.std.proofs.Common.{◌≢◌, ◌<◌, ◌≤◌, ◌+◌, ℕ, length, get_or}
use Rattle.sci_allowed.proofs.conditioned.last_line.Given as goal

-- no line ends in what was passed, but at its end
abbrev pub invariant-loop-at : goal.invariant-loop-at
invariant-loop-at l =
    (0 < length l.input → l.at < length l.input) × (l.at ≤ length l.input) × ((k : ℕ) → l.at ≤ k → k + 1 < length l.input → get_or l.input k 0 ≢ 10)

abbrev pub decreases-loop-at : goal.decreases-loop-at
decreases-loop-at l = l.at
