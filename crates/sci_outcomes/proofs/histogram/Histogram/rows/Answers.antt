use Rattle.std.proofs.{Common.{◌≡◌, length, map, sym, ap, subst, ◌∙◌, rules, List, ℕ}, lemmas.List.{length-map, Sorted.{answers_always, length_permutation}}}
use Rattle.std.proofs.lemmas.Map.Iter.{iter_end}
use Rattle.std.specs.{List.Sorted.{IsPermutation, IsStableBy}, declared.cmp.Reverse.{Reverse}}
use Rattle.sci_allowed.specs.declared.outcome.Outcome.{Outcome}
use Rattle.sci_outcomes.specs.declared.histogram.{Row.{Row}, Tally.{Tally}}
use Rattle.sci_outcomes.proofs.{SightingCounts.{map_same}, Ranked.{are_rows, is_more, row_of}}
use Rattle.sci_outcomes.proofs.histogram.Histogram.rows.Goals as goal

pub returns-clause-rows : goal.returns-clause-rows
returns-clause-rows c = λ seen counted.
    let entries = c.args.self.tallies.entries in
    let all : map (λ (e : Outcome × Tally). e) c.loop-outcome.yielded ≡ entries
    = (iter_end (λ (e : Outcome × Tally). e) entries c.loop-outcome.yielded c.into_iter-outcome-iterator.result c.loop-outcome.outcome-iterator c.next.new.self
    c.next.result c.into_iter-outcome-iterator.ensures.into_iter_gives.0 c.loop-outcome.yielded_by c.in-None.is c.next.ensures.steps).0 in
    let is : c.loop-outcome.rows.items ≡ map row_of entries = c.loop-outcome.invariant ∙ ap (map row_of) (sym (map_same c.loop-outcome.yielded) ∙ all) in
    let sorts = c.in_ok-sort_by_key.ensures in
    let key = λ (row : Row). let k : Reverse ℕ = record { 0 = row.runs } in k in
    let sorted = sorts.sorted key (answers_always _ _ _ (λ f a r g called. search rules)) in
    let stable = sorts.stable key (answers_always _ _ _ (λ f a r g called. search rules)) in
    are_rows c.args.self seen c.sort_by_key.new.self.items counted c.len.ensures.ordered
    (subst (λ (rows : List Row). IsPermutation rows c.sort_by_key.new.self.items) is sorts.permutation) sorted
    (subst (λ (rows : List Row). IsStableBy is_more rows c.sort_by_key.new.self.items) is stable)

pub returns-clause-many : goal.returns-clause-many
returns-clause-many c =
    let entries = c.args.self.tallies.entries in
    let all : map (λ (e : Outcome × Tally). e) c.loop-outcome.yielded ≡ entries
    = (iter_end (λ (e : Outcome × Tally). e) entries c.loop-outcome.yielded c.into_iter-outcome-iterator.result c.loop-outcome.outcome-iterator c.next.new.self
    c.next.result c.into_iter-outcome-iterator.ensures.into_iter_gives.0 c.loop-outcome.yielded_by c.in-None.is c.next.ensures.steps).0 in
    length_permutation c.loop-outcome.rows.items c.sort_by_key.new.self.items c.in_ok-sort_by_key.ensures.permutation
    ∙ (ap length (c.loop-outcome.invariant ∙ ap (map row_of) (sym (map_same c.loop-outcome.yielded) ∙ all)) ∙ length-map entries row_of)
