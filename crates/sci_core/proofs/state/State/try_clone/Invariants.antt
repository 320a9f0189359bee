-- The nodes and the lanes so far are copied.
use Rattle.std.proofs.Common.{◌≡◌, take}
use Rattle.sci_core.proofs.state.State.try_clone.Given as goal

abbrev pub invariant-loop-node : goal.invariant-loop-node
invariant-loop-node l = l.nodes.items ≡ take l.node-index l.node-items

abbrev pub invariant-loop-lane : goal.invariant-loop-lane
invariant-loop-lane l = l.lanes.items ≡ take l.lane-index l.lane-items
