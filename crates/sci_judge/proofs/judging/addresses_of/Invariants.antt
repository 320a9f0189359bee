use Rattle.std.proofs.Common.{◌≡◌, ℕ, take}
use Rattle.std.specs.{Ordering.{nat_cmp}, BTreeSet.{contains}, List.{list_any}}
use Rattle.sci_judge.specs.Judgement.{is_at}
use Rattle.sci_judge.proofs.judging.addresses_of.Given as goal

-- the addresses of the operations so far
abbrev pub invariant-loop-access : goal.invariant-loop-access
invariant-loop-access l = (address : ℕ) → contains nat_cmp l.addresses address ≡ list_any (is_at address) (take l.access-index l.accesses)
