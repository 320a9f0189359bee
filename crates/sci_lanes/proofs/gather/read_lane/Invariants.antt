-- The packets so far are the first of those that the lane shows.
use Rattle.std.proofs.Common.{◌≡◌, ◌%◌, ◌≤◌, List, length, take}
use Rattle.std.specs.VecDeque.{deque_len, deque_capacity}
use Rattle.sci_packets.specs.declared.packet.Packet.{Packet}
use Rattle.sci_lanes.specs.{declared.view.{Outbound.{Outbound}, Inbound.{Inbound}}, Shown.{Fits}}
use Rattle.sci_lanes.proofs.gather.read_lane.Given as goal

abbrev pub invariant-loop-passed : goal.invariant-loop-passed
invariant-loop-passed l =
    (deque_len l.packets ≤ l.passed)
    × (4 ≤ deque_capacity l.packets)
    × ((shown : List Packet) (o : Outbound) (i : Inbound) → Fits l.words l.lane shown o i → l.turn ≡ i.taken % 4
    → (l.passed ≤ length shown) × (l.packets.items ≡ take l.passed shown))
