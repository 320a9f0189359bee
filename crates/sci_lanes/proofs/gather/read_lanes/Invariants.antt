-- The lanes so far are read, and there is room for the packets of the others.
use Rattle.std.proofs.Common.{◌≡◌, ◌+◌, ◌≤◌, length}
use Rattle.std.specs.{Prelude.{vec_capacity}, List.{AllByRecursion}, VecDeque.{deque_len, deque_capacity}}
use Rattle.sci_lanes.specs.{Cells.{lane_count}, Gathering.{AreLanes, HasFour}}
use Rattle.sci_lanes.proofs.gather.read_lanes.Given as goal

abbrev pub invariant-loop-room : goal.invariant-loop-room
invariant-loop-room l =
    (l.nodes ≡ l.nodes-2)
    × (length l.lanes.items + length l.room-iterator.rest.items ≡ lane_count l.nodes-2)
    × AllByRecursion (λ q. HasFour q.items (deque_len q) (deque_capacity q)) l.room-iterator.rest.items
    × (lane_count l.nodes-2 ≤ vec_capacity l.lanes)
    × AreLanes l.nodes-2 l.words l.inbox_turns (length l.lanes.items) l.lanes.items
