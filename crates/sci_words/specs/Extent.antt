-- The limits of a machine's size.
use Rattle.std.specs.Prelude.{ℕ, ◌≤◌}
use Rattle.sci_words.specs.declared.limits.TheConstants.{MAX_NODES, MAX_LINES, MAX_SLOTS}

-- each number of a machine's size is at least 1 and at most its limit
pub record AreWithinLimits (nodes lines slots : ℕ) : Type 0 where
  pub has_node : 1 ≤ nodes
  pub few_nodes : nodes ≤ MAX_NODES
  pub has_line : 1 ≤ lines
  pub few_lines : lines ≤ MAX_LINES
  pub has_slot : 1 ≤ slots
  pub few_slots : slots ≤ MAX_SLOTS
