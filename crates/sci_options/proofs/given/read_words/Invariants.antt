use Rattle.std.proofs.Common.{◌≤◌, ◌-◌, length, drop}
use Rattle.sci_options.specs.Given.{texts}
use Rattle.sci_options.proofs.Steps.{IsReadTo}
use Rattle.sci_options.proofs.given.read_words.Given as goal

-- the words so far
abbrev pub invariant-loop-at : goal.invariant-loop-at
invariant-loop-at l = (l.at ≤ length l.words) × IsReadTo l.options (texts l.words) l.given (drop l.at (texts l.words))

abbrev pub decreases-loop-at : goal.decreases-loop-at
decreases-loop-at l = length l.words - l.at
