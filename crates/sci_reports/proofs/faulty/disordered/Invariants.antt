use Rattle.std.proofs.Common.{◌≡◌, ◌<◌, ℕ, None, get_or, length, take}
use Rattle.std.specs.{Prelude.{All, option_map}, List.{filter}}
use Rattle.sci_words.specs.declared.limits.TheConstants.{MAX_NODES}
use Rattle.sci_history.specs.{Placed.{is_of_node}, Audit.{is_out_of_order, last_entry}}
use Rattle.sci_reports.specs.EntryLines.{entries_in, entry_of}
use Rattle.sci_reports.specs.Faulty.{IsLast, is_by}
use Rattle.sci_reports.proofs.FoundEntries.{NoneFails}
use Rattle.sci_reports.proofs.faulty.disordered.Given as goal

-- each node's latest entry is the last of its entries so far, which stand in order
abbrev pub invariant-loop-at : goal.invariant-loop-at
invariant-loop-at l = record {
  sixteen : length l.latest ≡ MAX_NODES;
  latest : All (λ entry. entry.node < MAX_NODES) (entries_in l.entries) → (node : ℕ) → node < MAX_NODES
      → option_map entry_of (get_or l.latest node None) ≡ last_entry None (filter (is_of_node node) (take l.at-index (entries_in l.entries)));
  earlier : All (λ entry. entry.node < MAX_NODES) (entries_in l.entries) → (node : ℕ) → node < MAX_NODES
      → IsLast (is_by node) (take l.at-index l.entries) (get_or l.latest node None);
  ordered : All (λ entry. entry.node < MAX_NODES) (entries_in l.entries) → NoneFails is_out_of_order l.entries l.at-index;
}
