-- The seat has the nodes that are left, and the ends so far are those of the others.
use Rattle.std.proofs.Common.{◌≡◌, []}
use Rattle.std.specs.Arc.{arc_value}
use Rattle.sci_core.specs.Size.{size_of}
use Rattle.sci_lanes.specs.{Cells.{word_count}, Ends.{rest_view, opening_ends}}
use Rattle.sci_lanes.proofs.lanes.Lanes.new.Given as goal

abbrev pub invariant-loop-node : goal.invariant-loop-node
invariant-loop-node l =
    (l.seat.table_id ≡ (arc_value l.table).shared.table_id)
    × (l.seat.table_id.words ≡ word_count l.fn.extent.nodes)
    × (l.seat.me ≡ (rest_view (size_of l.fn.extent l.fn.limit) l.node, []))
    × (l.ends.items ≡ opening_ends l.seat.table_id (size_of l.fn.extent l.fn.limit) l.node)
