use Rattle.std.proofs.Common.{◌≡◌, ◌<◌, ℕ, [], length, get_or}
use Rattle.sci_history.specs.{Lawful.{IsLawfulLine}, Memory.{stamped_at}, Placed.{on_line}}
use Rattle.sci_history.specs.Placing.{HasCounts, lists_of_counts}
use Rattle.sci_history.proofs.placing.judge_lines.Given as goal

-- the lines so far are lawful, and have their counts
abbrev pub invariant-loop-line : goal.invariant-loop-line
invariant-loop-line l = record {
  lawful : (other : ℕ) → other < l.line → IsLawfulLine l.logs other (stamped_at l.last other);
  lines : length l.loads.items ≡ l.line;
  counts : (line : ℕ) → line < l.line → HasCounts (get_or (lists_of_counts l.loads.items) line []) (on_line line l.logs);
}
