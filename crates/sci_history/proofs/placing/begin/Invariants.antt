use Rattle.std.proofs.Common.{◌≡◌, ◌<◌, ℕ, [], length, get_or}
use Rattle.sci_words.specs.declared.limits.TheConstants.{MAX_LINES}
use Rattle.sci_history.specs.Placing.{lists_of_counts, state_of}
use Rattle.sci_history.proofs.placing.begin.Given as goal

-- the lines so far stand at version 0
abbrev pub invariant-loop-line : goal.invariant-loop-line
invariant-loop-line l = record {
  long : length l.lines ≡ MAX_LINES;
  states : (k : ℕ) → k < l.line → state_of l.lines k ≡ record { version = 0; left = get_or (get_or (lists_of_counts l.loads) k []) 0 0 };
}
