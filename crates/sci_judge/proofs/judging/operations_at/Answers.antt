use Rattle.std.proofs.Common.{rules, arith}
use Rattle.std.proofs.lemmas.List.Sorted.{IsPartitionPoint-from_clause, IsPartitionedBy-leb, IsPartitionedBy-ltb}
use Rattle.sci_judge.proofs.Runs.{Parts, is_below, is_up_to, part_from, part_is}
use Rattle.sci_judge.proofs.judging.operations_at.Goals as goal

pub slice_bounds-result-count : goal.slice_bounds-result-count
slice_bounds-result-count c =
    let xs = c.args.sorted.now in
    let address = c.args.address in
    let start = c.partition_point-start.result in
    let end = c.partition_point-end.result in
    let low : Parts (is_below address) xs start = IsPartitionPoint-from_clause (is_below address) _ _ c.partition_point-start.ensures.partitioned
    (IsPartitionedBy-ltb (λ x. x.address) _ address c.requires) (λ a r q k. search rules) in
    let high : Parts (is_up_to address) xs end = IsPartitionPoint-from_clause (is_up_to address) _ _ c.partition_point-end.ensures.partitioned
    (IsPartitionedBy-leb (λ x. x.address) _ address c.requires) (λ a r q k. search rules) in
    let part = part_from xs address start end c.partition_point-start.ensures.bound c.partition_point-end.ensures.bound low high in
    let rises = part.rises in
    omega arith

pub slice_bounds-result-start : goal.slice_bounds-result-start
slice_bounds-result-start c =
    let xs = c.args.sorted.now in
    let address = c.args.address in
    let start = c.partition_point-start.result in
    let end = c.partition_point-end.result in
    let low : Parts (is_below address) xs start = IsPartitionPoint-from_clause (is_below address) _ _ c.partition_point-start.ensures.partitioned
    (IsPartitionedBy-ltb (λ x. x.address) _ address c.requires) (λ a r q k. search rules) in
    let high : Parts (is_up_to address) xs end = IsPartitionPoint-from_clause (is_up_to address) _ _ c.partition_point-end.ensures.partitioned
    (IsPartitionedBy-leb (λ x. x.address) _ address c.requires) (λ a r q k. search rules) in
    let part = part_from xs address start end c.partition_point-start.ensures.bound c.partition_point-end.ensures.bound low high in
    let rises = part.rises in
    omega arith

pub returns : goal.returns
returns c =
    let xs = c.args.sorted.now in
    let address = c.args.address in
    let start = c.partition_point-start.result in
    let end = c.partition_point-end.result in
    let low : Parts (is_below address) xs start = IsPartitionPoint-from_clause (is_below address) _ _ c.partition_point-start.ensures.partitioned
    (IsPartitionedBy-ltb (λ x. x.address) _ address c.requires) (λ a r q k. search rules) in
    let high : Parts (is_up_to address) xs end = IsPartitionPoint-from_clause (is_up_to address) _ _ c.partition_point-end.ensures.partitioned
    (IsPartitionedBy-leb (λ x. x.address) _ address c.requires) (λ a r q k. search rules) in
    part_is xs address start end (part_from xs address start end c.partition_point-start.ensures.bound c.partition_point-end.ensures.bound low high)
