-- When a node may have nothing to do.
use Rattle.std.specs.Prelude.{◌≡◌, ◌<◌, ℕ, true, None}
use Rattle.sci_cache.specs.State.{waits}
use Rattle.sci_core.specs.Node.{NodeOf, pending_on}
use Rattle.sci_policy.specs.Lines.{state_on}

-- no operation is pending, or some line awaits an answer
pub data MayRest (node : NodeOf) : Type 0 where
  NothingPending : ((line : ℕ) → pending_on node line ≡ None) → MayRest node
  Awaits : (line : ℕ) → waits (state_on node line) ≡ true → MayRest node

-- the same of a node that isn't alone; one that is sends its answers itself, so nothing is pending
pub data MayIdle (node : NodeOf) : Type 0 where
  NothingPends : ((line : ℕ) → pending_on node line ≡ None) → MayIdle node
  AwaitsOthers : 1 < node.cache.nodes → (line : ℕ) → waits (state_on node line) ≡ true → MayIdle node
