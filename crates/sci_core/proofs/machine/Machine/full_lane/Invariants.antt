-- The lanes so far are empty.
use Rattle.std.proofs.Common.{◌≡◌, ◌<◌, ℕ, length}
use Rattle.sci_core.specs.Core.{lane_of}
use Rattle.sci_core.proofs.machine.Machine.full_lane.Given as goal

abbrev pub invariant-senders : goal.invariant-senders
invariant-senders l = (from to : ℕ) → from < l.from → to < l.nodes → length (lane_of l.self l.kind from to) ≡ 0

abbrev pub invariant-receivers : goal.invariant-receivers
invariant-receivers l = ((from to : ℕ) → from < l.from → to < l.nodes → length (lane_of l.self l.kind from to) ≡ 0)
    × ((to : ℕ) → to < l.to → length (lane_of l.self l.kind l.from to) ≡ 0)
