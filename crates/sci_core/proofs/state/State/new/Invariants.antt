-- The nodes and the lanes so far are those of the opening.
use Rattle.std.proofs.Common.{◌≡◌, ℕ, [], map, replicate}
use Rattle.std.specs.List.{range_with_len}
use Rattle.sci_core.specs.{Node.{opening_node}, Size.{size_of}}
use Rattle.sci_core.proofs.state.State.new.Given as goal

abbrev pub invariant-loop-me : goal.invariant-loop-me
invariant-loop-me l = l.nodes.items ≡ map (λ (n : ℕ). opening_node n (size_of l.fn.extent l.fn.limit)) (range_with_len 0 l.me)

abbrev pub invariant-loop-place : goal.invariant-loop-place
invariant-loop-place l = l.lanes.items ≡ replicate l._place []
