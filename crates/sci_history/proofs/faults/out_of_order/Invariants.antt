use Rattle.std.proofs.Common.{◌≡◌, ℕ, ◌<◌, length, take, get_or, None}
use Rattle.std.specs.List.{filter}
use Rattle.sci_words.specs.declared.limits.TheConstants.{MAX_NODES}
use Rattle.sci_history.specs.{Placed.{is_of_node}, Audit.{entries_of, is_out_of_order, last_entry}}
use Rattle.sci_history.proofs.AuditFinds.{FailsLater}
use Rattle.sci_history.proofs.faults.out_of_order.Given as goal

-- each node's latest entry is the last of its entries so far, which stand in order
abbrev pub invariant-loop-entry : goal.invariant-loop-entry
invariant-loop-entry l = record {
  sixteen : length l.latest ≡ MAX_NODES;
  latest : (node : ℕ) → node < MAX_NODES → get_or l.latest node None ≡ last_entry None (filter (is_of_node node) (take l.entry-index (entries_of l.entries)));
  ordered : FailsLater is_out_of_order l.entries l.entry-index;
}
