use Rattle.std.proofs.{Common.{rules}, lemmas.List.Sorted.{Contains-permutation, IsNonDecreasingBy-from_sort_by_key}}
use Rattle.sci_judge.specs.declared.times.Ended.{Ended}
use Rattle.sci_judge.proofs.times.sorted_ends.Goals as goal

pub returns-clause-rising : goal.returns-clause-rising
returns-clause-rising c =
    IsNonDecreasingBy-from_sort_by_key (λ (ended : Ended). ended.end) _ c.in_ok-sort_by_key.ensures.sorted (λ a r f called. search rules)

pub returns-clause-ends : goal.returns-clause-ends
returns-clause-ends c = λ i version a at_a at_v.
    Contains-permutation c.in_ok-sorted.sorted.items c.sort_by_key.new.self.items (record { end = a.end; version = version })
    c.in_ok-sort_by_key.ensures.permutation (c.in_ok-sorted.ensures i version a at_a at_v)
