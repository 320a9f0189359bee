use Rattle.std.proofs.Common.{◌≡◌}
use Rattle.std.specs.List.{flat_map, range_with_len}
use Rattle.sci_orders.specs.Positions.{lists_of, position_of}
use Rattle.sci_allowed.specs.Outcome.{replies_on}
use Rattle.sci_allowed.proofs.outcome.replies_of.Given as goal

-- the nodes so far
abbrev pub invariant-loop-node : goal.invariant-loop-node
invariant-loop-node l = l.replies.items ≡ flat_map (replies_on (lists_of l.operations) (position_of l.standing)) (range_with_len 0 l.node)
