-- The nodes so far are joined, in their order, and the ends of the others are left.
use Rattle.std.proofs.Common.{◌≡◌, ◌≤◌, [], map}
use Rattle.std.specs.Prelude.{vec_capacity}
use Rattle.sci_lanes.proofs.Joining.{AreJoining}
use Rattle.sci_lanes.proofs.gather.join_all.Given as goal

abbrev pub invariant-loop-n : goal.invariant-loop-n
invariant-loop-n g l =
    (l.seat.table_id ≡ l.fn.seat.table_id)
    × (l.seat.me ≡ (record { parts = l.seat.me.0.parts; words = [] }, []))
    × (l.count ≤ vec_capacity l.nodes)
    × (l.count ≤ vec_capacity l.inbox_turns)
    × AreJoining l.fn.seat.table_id l.count l.n (map g.E.HasEnd.end_of l.fn.ends.items) (map g.E.HasEnd.end_of l.ends.items) l.seat.me.0.parts l.nodes.items
    l.inbox_turns.items
