use Rattle.std.proofs.Common.{◌≡◌, ℕ, take}
use Rattle.std.specs.{Prelude.{is_some}, Ordering.{nat_cmp}, BTreeMap.{get}, List.{list_any}}
use Rattle.sci_history.specs.{Placed.{makes}, Audit.{is_version_twice}}
use Rattle.sci_reports.specs.{EntryLines.{entries_in}, Faulty.{IsLast, is_made}}
use Rattle.sci_reports.proofs.FoundEntries.{NoneFails}
use Rattle.sci_reports.proofs.faulty.made_twice.Given as goal

-- the map has the makers so far by their versions, and each version came once
abbrev pub invariant-loop-at : goal.invariant-loop-at
invariant-loop-at l = record {
  made : (version : ℕ) → is_some (get nat_cmp l.made version) ≡ list_any (makes version) (take l.at-index (entries_in l.entries));
  earlier : (version : ℕ) → IsLast (is_made version) (take l.at-index l.entries) (get nat_cmp l.made version);
  once : NoneFails is_version_twice l.entries l.at-index;
}
