-- The rank of a node's line in a machine.
use Rattle.std.specs.Prelude.{ℕ}
use Rattle.sci_core.specs.Core.{Core, node_at}
use Rattle.sci_policy.specs.Lines.{state_on}
use Rattle.sci_fair.specs.Rank.{rank, work_on}

abbrev pub rank_at : Core → ℕ → ℕ → ℕ
rank_at core n line = rank (work_on (node_at core n) line) (state_on (node_at core n) line)
