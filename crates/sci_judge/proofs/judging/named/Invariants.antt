use Rattle.std.proofs.Common.{◌≡◌, ◌⊎◌, ◌↔◌, ℕ, true}
use Rattle.std.specs.{Ordering.{nat_cmp}, BTreeSet.{contains}, List.{Contains}}
use Rattle.sci_judge.specs.Judgement.{Names}
use Rattle.sci_judge.proofs.judging.named.Given as goal

-- the addresses so far and those that come are the ones that the trace names
abbrev pub invariant-loop-address : goal.invariant-loop-address
invariant-loop-address l = (q : ℕ) → Names l.trace q ↔ ((contains nat_cmp l.addresses q ≡ true) ⊎ Contains l.address-iterator q)
