-- The operations so far are on the lines.
use Rattle.std.proofs.Common.{ℕ, ◌<◌, length}
use Rattle.sci_orders.specs.Positions.{lists_of, operation_at, own_of}
use Rattle.sci_protocol_tests.proofs.orders_tests.are_on_two_lines.Given as goal

abbrev pub invariant-loop-own : goal.invariant-loop-own
invariant-loop-own l = (m i : ℕ) → m < l.own-index → i < length (own_of (lists_of l.operations) m)
    → ((operation_at (lists_of l.operations) m i).line < 2) × ((operation_at (lists_of l.operations) m i).word < 8)

abbrev pub invariant-loop-op : goal.invariant-loop-op
invariant-loop-op l = (i : ℕ) → i < l.op-index
    → ((operation_at (lists_of l.operations) l.own-index i).line < 2) × ((operation_at (lists_of l.operations) l.own-index i).word < 8)
