-- How many packets are under way to one node: how deep its queues have to be, so that no packet waits for room.
use Rattle.std.specs.{Prelude.{◌≤◌, ◌+◌, ◌*◌, ℕ, List, length, map}, List.{flat_map, range_with_len}}
use Rattle.sci_cache.specs.Cache.{Letter}
use Rattle.sci_core.specs.declared.lane.LaneKind.{LaneKind, TheVariants.{Requests, Answers}}
use Rattle.sci_core.specs.Core.{Core, lane_of}

-- the lanes of a kind to a node, from each node of the machine
abbrev pub lanes_to : Core → LaneKind → ℕ → List (List Letter)
lanes_to core kind n = map (λ from. lane_of core kind from n) (range_with_len 0 core.size.nodes)

-- the packets in them
abbrev pub coming : Core → LaneKind → ℕ → List Letter
coming core kind n = flat_map (λ lane. lane) (lanes_to core kind n)

-- To a node comes at most one answer for each of its own lines with an entry; and at most one packet, be it a request or an
-- answer, for each line with an entry of each node. A node has no more such lines than the machine has lines, and no more than
-- it has slots.
pub record FitsQueues (core : Core) (n : ℕ) : Type 0 where
  pub answers_by_lines : length (coming core Answers n) ≤ core.size.lines
  pub answers_by_slots : length (coming core Answers n) ≤ core.size.slots
  pub all_by_lines : length (coming core Requests n) + length (coming core Answers n) ≤ core.size.nodes * core.size.lines
  pub all_by_slots : length (coming core Requests n) + length (coming core Answers n) ≤ core.size.nodes * core.size.slots
