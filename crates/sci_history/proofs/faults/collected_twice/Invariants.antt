use Rattle.std.proofs.Common.{◌≡◌, ℕ, take}
use Rattle.std.specs.{Ordering.{nat_cmp}, BTreeSet.{contains}, List.{list_any}}
use Rattle.sci_history.specs.{Placed.{makes}, Audit.{entries_of, is_version_twice}}
use Rattle.sci_history.proofs.AuditFinds.{FailsLater}
use Rattle.sci_history.proofs.faults.collected_twice.Given as goal

-- the set has the versions of the makers so far, and each came once
abbrev pub invariant-loop-entry : goal.invariant-loop-entry
invariant-loop-entry l = record {
  made : (version : ℕ) → contains nat_cmp l.made version ≡ list_any (makes version) (take l.entry-index (entries_of l.entries));
  once : FailsLater is_version_twice l.entries l.entry-index;
}
