-- The states where events lead, over a network that keeps no order.
use Rattle.std.specs.Prelude.{◌≡◌, ◌<◌, ℕ, List}
use Rattle.sci_core.specs.{Core.{Core, node_at, opening}, Network.{Move, moved_from}, Size.{IsSize, IsMachineSize}, Node.{NodeOf}}

-- a state to which moves lead a machine of any size: events in any order, over a network that keeps none
pub record IsReachable (core : Core) : Type 0 where
  pub size : IsSize core.size
  pub moves : List Move
  pub leads : moved_from (opening core.size) moves ≡ core

-- the same of a machine within the limits
pub record IsReached (core : Core) : Type 0 where
  pub size : IsMachineSize core.size
  pub moves : List Move
  pub leads : moved_from (opening core.size) moves ≡ core

-- a node of a state where moves lead a machine of any size
pub record IsReachableNode (n : ℕ) (node : NodeOf) : Type 0 where
  pub core : Core
  pub reached : IsReachable core
  pub some : n < core.size.nodes
  pub here : node_at core n ≡ node

-- the same of a machine within the limits
pub record IsReachedNode (n : ℕ) (node : NodeOf) : Type 0 where
  pub core : Core
  pub reached : IsReached core
  pub some : n < core.size.nodes
  pub here : node_at core n ≡ node
