use Rattle.std.proofs.Common.{get_or, ltb, sym, ◌∙◌, false, true, ◌≡◌, inl, inr, rules}
use Rattle.std.proofs.lemmas.Bool.{cases_lt, lt-ltb}
use Rattle.std.proofs.lemmas.List.Sorted.{IsPartitionPoint-from_clause, IsPartitionedBy-ltb}
use Rattle.sci_judge.proofs.times.count_before.Goals as goal

pub returns-clause-before : goal.returns-clause-before
returns-clause-before c =
    let parted = IsPartitionedBy-ltb (λ p. p.end) _ c.args.time c.requires in
    let point = IsPartitionPoint-from_clause (λ p. ltb p.end c.args.time) _ _ c.partition_point.ensures.partitioned parted (λ a r q k. search rules) in
    λ place d inside less. elim (cases_lt place c.partition_point.result) [
      | inl lt ↦ lt
      | inr past ↦ absurd (let no_ : true ≡ false = sym (lt-ltb (get_or c.args.ends.now place d).end c.args.time less) ∙ point.1 place d past inside in cc)
    ]
