-- The size of a machine.
use Rattle.std.specs.Prelude.{◌≤◌, ℕ}
use Rattle.sci_words.specs.declared.{extent.Extent.{Extent}, limits.TheConstants.{MAX_OPERATIONS}}
use Rattle.sci_words.specs.Extent.{AreWithinLimits}

-- how many nodes, lines and version slots a machine has, and how many operations each node may issue
pub record Size : Type 0 where
  pub nodes : ℕ
  pub lines : ℕ
  pub slots : ℕ
  pub limit : ℕ

abbrev pub size_of : Extent → ℕ → Size
size_of extent limit = record { nodes = extent.nodes; lines = extent.lines; slots = extent.slots; limit = limit }

-- a size of which each number is at least 1, with no limit above
pub record IsSize (size : Size) : Type 0 where
  pub has_node : 1 ≤ size.nodes
  pub has_line : 1 ≤ size.lines
  pub has_slot : 1 ≤ size.slots
  pub has_operation : 1 ≤ size.limit

-- a size within the limits
pub record IsMachineSize (size : Size) : Type 0 where
  pub extent : AreWithinLimits size.nodes size.lines size.slots
  pub some_operation : 1 ≤ size.limit
  pub few_operations : size.limit ≤ MAX_OPERATIONS
