use Rattle.std.proofs.Common.{◌≡◌, ℕ, take}
use Rattle.std.specs.{Ordering.{nat_cmp}, BTreeSet.{contains}, List.{list_any}}
use Rattle.sci_judge.specs.Witness.{AreWrittenOnce, writes}
use Rattle.sci_judge.proofs.checking.are_written_once.Given as goal

-- the set has the words that are written so far, each once
abbrev pub invariant-loop-access : goal.invariant-loop-access
invariant-loop-access l = record {
  made : (word : ℕ) → contains nat_cmp l.written word ≡ list_any (writes word) (take l.access-index l.accesses);
  once : AreWrittenOnce (take l.access-index l.accesses);
}
