-- There is room for the packets of the lanes so far.
use Rattle.std.proofs.Common.{◌≡◌, ◌≤◌, length}
use Rattle.std.specs.{Prelude.{vec_capacity}, List.{AllByRecursion}, VecDeque.{deque_len, deque_capacity}}
use Rattle.sci_lanes.specs.Gathering.{HasFour}
use Rattle.sci_lanes.proofs.gather.Room.new.Given as goal

abbrev pub invariant-loop-lane : goal.invariant-loop-lane
invariant-loop-lane l =
    (length l.packets.items ≡ l._lane)
    × (l.lane_count ≤ vec_capacity l.packets)
    × AllByRecursion (λ q. HasFour q.items (deque_len q) (deque_capacity q)) l.packets.items
