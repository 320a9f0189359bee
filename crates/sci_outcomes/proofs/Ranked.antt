-- The rows of a histogram, and their order.
use Rattle.std.proofs.Common.{◌≡◌, ◌≤◌, ◌<◌, ℕ, ◌+◌, Bool, true, false, arith, List, [], ◌∷◌, map, All, Some, None, length, get_or, refl, sym, ap, ◌∙◌}
use Rattle.std.proofs.lemmas.Cmp.{back_total, by_ranked, eq_by_cmp_equiv, nat_cmp_total, on_total, ranked, tied_itself, then_total}
use Rattle.std.proofs.lemmas.List.{get_or-map, length-map, Elements.{All-map}}
use Rattle.std.proofs.lemmas.List.Sorted.{All-permutation, ranks_by, sum_by-IsPermutation, ties_stay_sorted}
use Rattle.std.proofs.lemmas.{List.Sums.{sum_by-cons, sum-map}, Map.{NonePasses}}
use Rattle.std.proofs.lemmas.Map.Entries.{btree_map_get_place, lookup_tail, none_past_head}
use Rattle.std.proofs.lemmas.Map.Keys.{IsDistinct-cons, IsDistinct-from_sorted, IsDistinct-head, IsDistinct-IsPermutation, IsDistinct-tail}
use Rattle.std.proofs.lemmas.Map.Keys.{Less-from_sorted, apart_from_distinct, ge_from_not_lt, sorted_from_all_adjacent}
use Rattle.std.proofs.lemmas.Option.{slice_get-get_or}
use Rattle.std.specs.{Prelude.{count_by, sum}, List.{AllByRecursion, IsDistinct}}
use Rattle.std.specs.List.Sorted.{IsPermutation, IsSortedBy, IsStableBy, IsStrictlySortedBy, ties}
use Rattle.std.specs.{BTreeMap.{IsOrdered, get, is_at}, Map.{keys_of, lookup}, Cmp.{IsTotalOrder, IsStrictWeakOrder}}
use Rattle.std.specs.Ordering.{is_eq, is_lt, nat_cmp, ordering_reverse}
use Rattle.std.specs.declared.cmp.Ordering.{Ordering, TheVariants.{Less, Equal, Greater}}
use Rattle.sci_allowed.specs.{Outcome.{outcome_cmp}, declared.outcome.Outcome.{Outcome}}
use Rattle.sci_outcomes.specs.declared.{histogram.{Histogram.{Histogram}, Row.{Row}, Tally.{Tally}}, outcome.Sighting.{Sighting}}
use Rattle.sci_outcomes.specs.Rows.{AreRowsOf, HasCounted, IsRowOf, has_outcome, row_cmp}
use Rattle.sci_outcomes.proofs.SightingCounts.{bit, some_tally, sum_by_map, tally_is}
use Rattle.sci_outcomes.proofs.Histograms.{is_same, outcome_total, same_back}

abbrev pub row_of : Outcome × Tally → Row
row_of entry = record { outcome = entry.0; runs = entry.1.runs; first = entry.1.first; in_order = entry.1.in_order }

-- whether two rows have one outcome
abbrev row_same : Row → Row → Bool
row_same a b = is_same a.outcome b.outcome

abbrev runs_of : Row → ℕ
runs_of row = row.runs

-- ---- each outcome has one entry

none_counts : (es : List (Outcome × Tally)) (q : Outcome) → NonePasses (is_same q) es → count_by (λ e. is_same e.0 q) es ≡ 0
none_counts [] q none = refl
none_counts (e ∷ es) q none =
    let rest : count_by (λ f. is_same f.0 q) es ≡ 0 = none_counts es q none.1 in
    let here : bit (is_same e.0 q) ≡ 0 = ap bit (same_back e.0 q ∙ none.0) in
    sum_by-cons (λ f. bit (is_same f.0 q)) e es ∙ omega (arith, rest, here)

one_at : (e : Outcome × Tally) (es : List (Outcome × Tally)) (q : Outcome) (t : Tally) (b : Bool)
    → (lookup (is_at (outcome_cmp q)) es ≡ Some t → count_by (λ f. is_same f.0 q) es ≡ 1) → is_same q e.0 ≡ b → IsDistinct is_same (keys_of (e ∷ es))
    → lookup (is_at (outcome_cmp q)) (e ∷ es) ≡ Some t
    → count_by (λ f. is_same f.0 q) (e ∷ es) ≡ 1
one_at e es q t true later is distinct found =
    let rest : count_by (λ f. is_same f.0 q) es ≡ 0 = none_counts es q (none_past_head (eq_by_cmp_equiv outcome_total) q e es distinct is) in
    let here : bit (is_same e.0 q) ≡ 1 = ap bit (same_back e.0 q ∙ is) in
    sum_by-cons (λ f. bit (is_same f.0 q)) e es ∙ omega (arith, rest, here)
one_at e es q t false later is distinct found = grind (arith, is_same, lookup_tail, bit, same_back, sum_by-cons)

one_entry : (es : List (Outcome × Tally)) (q : Outcome) (t : Tally) → IsDistinct is_same (keys_of es) → lookup (is_at (outcome_cmp q)) es ≡ Some t
    → count_by (λ e. is_same e.0 q) es ≡ 1
one_entry [] q t distinct found = let none_some : None ≡ Some t = found in absurd cc
one_entry (e ∷ es) q t distinct found =
    one_at e es q t (is_same q e.0) (one_entry es q t (IsDistinct-tail is_same e.0 (keys_of es) distinct)) refl distinct found

-- ---- rows of one outcome

apart_head : (e : Outcome × Tally) (es : List (Outcome × Tally)) → AllByRecursion (λ o. is_same e.0 o ≡ false) (keys_of es)
    → AllByRecursion (λ row. row_same (row_of e) row ≡ false) (map row_of es)
apart_head e [] all = tt
apart_head e (f ∷ es) all = (all.0, apart_head e es all.1)

rows_distinct : (es : List (Outcome × Tally)) → IsDistinct is_same (keys_of es) → IsDistinct row_same (map row_of es)
unfolding IsDistinct
rows_distinct [] distinct = tt
rows_distinct (e ∷ es) distinct =
    IsDistinct-cons row_same (row_of e) (map row_of es) (apart_head e es (IsDistinct-head is_same e.0 (keys_of es) distinct))
    (rows_distinct es (IsDistinct-tail is_same e.0 (keys_of es) distinct))

-- ---- the order

abbrev before : Row → Row → Bool
before a b = is_lt (outcome_cmp a.outcome b.outcome)

-- the more frequent first
abbrev pub is_more : Row → Row → Bool
is_more a b = is_lt (nat_cmp b.runs a.runs)

before_order : IsStrictWeakOrder before
before_order = ranks_by outcome_total (λ (row : Row). row.outcome)

more_order : IsStrictWeakOrder is_more
more_order = ranks_by (back_total nat_cmp_total) runs_of

less_back : (a b : Outcome) → outcome_cmp a b ≡ Less → is_lt (outcome_cmp b a) ≡ false
less_back a b less = ap is_lt (outcome_total.antisymm b a ∙ ap ordering_reverse less)

-- entries stand by outcome, and so do their rows
entries_sorted : (es : List (Outcome × Tally)) → IsStrictlySortedBy outcome_cmp (keys_of es) → IsSortedBy before (map row_of es)
entries_sorted es sorted = λ k d _ lt.
    let long : length (map row_of es) ≡ length es = length-map es row_of in
    let longs : length (keys_of es) ≡ length es = length-map es (λ e. e.0) in
    let pair : Outcome × Tally = (d.outcome, record { runs = d.runs; first = d.first; in_order = d.in_order }) in
    let key = λ (i : ℕ). get_or (keys_of es) i d.outcome in
    let at : (i : ℕ) → i < length es → (get_or (map row_of es) i d).outcome ≡ key i =
    λ i below. ap (λ (row : Row). row.outcome) (get_or-map row_of es i pair d below)
    ∙ sym (get_or-map (λ (e : Outcome × Tally). e.0) es i pair d.outcome below) in
    let less : outcome_cmp (key k) (key (k + 1)) ≡ Less =
    Less-from_sorted outcome_cmp (keys_of es) k (k + 1) d.outcome sorted (omega arith) (omega (arith, lt, long, longs)) in
    ap (λ o. is_lt (outcome_cmp o (get_or (map row_of es) k d).outcome)) (at (k + 1) (omega (arith, lt, long)))
    ∙ (ap (λ o. is_lt (outcome_cmp (key (k + 1)) o)) (at k (omega (arith, lt, long))) ∙ less_back (key k) (key (k + 1)) less)

-- ---- neighbours

-- what isn't above and isn't the same is below
below : (o p : Ordering) → o ≡ ordering_reverse p → is_lt p ≡ false → is_eq o ≡ false → o ≡ Less
below Less p back not_less apart = refl
below Equal p back not_less apart = absurd cc
below Greater Less back not_less apart = absurd cc
below Greater Equal back not_less apart = absurd cc
below Greater Greater back not_less apart = absurd cc

ranked_neighbours : (a b : Row) → b.runs ≤ a.runs → (b.runs ≡ a.runs → before b a ≡ false) → row_same a b ≡ false → row_cmp a b ≡ Less
ranked_neighbours a b le ties_stay apart = grind (arith, by_ranked, ranked, below, outcome_total)

tied : (a b : Row) → b.runs ≡ a.runs → ties is_more a b ≡ true
tied a b same = grind (arith, tied_itself, nat_cmp_total)

row_total : IsTotalOrder row_cmp
row_total = then_total (on_total runs_of (back_total nat_cmp_total)) (on_total (λ (row : Row). row.outcome) outcome_total)

strictly : (rows : List Row) → ((d : Row) (k : ℕ) → k + 1 < length rows → row_cmp (get_or rows k d) (get_or rows (k + 1) d) ≡ Less)
    → IsStrictlySortedBy row_cmp rows
unfolding IsStrictlySortedBy
strictly [] neighbours = tt
strictly (row ∷ rows) neighbours = sorted_from_all_adjacent row_total (row ∷ rows) row (neighbours row)

module _ (histogram : Histogram) (seen : List Sighting) (rows : List Row) (counted : HasCounted histogram seen)
    (ordered : IsOrdered outcome_cmp histogram.tallies) (moved : IsPermutation (map row_of histogram.tallies.entries) rows)
    (sorted : IsSortedBy is_more rows) (stable : IsStableBy is_more (map row_of histogram.tallies.entries) rows) where
  abbrev es : List (Outcome × Tally)
  es = histogram.tallies.entries

  distinct : IsDistinct is_same (keys_of es)
  distinct = IsDistinct-from_sorted outcome_cmp (keys_of es) ordered

  entry_row : All (λ e. IsRowOf seen (row_of e)) es
  entry_row = λ k d lt.
      let e : Outcome × Tally = get_or es k d in
      let there : get outcome_cmp histogram.tallies e.0 ≡ Some e.1 =
      btree_map_get_place outcome_total histogram.tallies k e.0 e.1 ordered (slice_get-get_or es k d lt) in
      let says = tally_is (has_outcome e.0) seen e.1 (sym (counted.each e.0) ∙ there) in
      record { runs = says.0; first = says.1; in_order = says.2; some = says.3 }

  each : All (IsRowOf seen) rows
  each = All-permutation (IsRowOf seen) (map row_of es) rows moved (All-map (IsRowOf seen) row_of es entry_row)

  once : All (λ sighting. count_by (λ row. has_outcome row.outcome sighting) rows ≡ 1) seen
  once = λ k d lt.
      let s : Sighting = get_or seen k d in
      let some = some_tally (has_outcome s.outcome) seen k d lt (ap is_eq (tied_itself outcome_total s.outcome)) in
      let one : count_by (λ e. is_same e.0 s.outcome) es ≡ 1 = one_entry es s.outcome some.0 distinct (counted.each s.outcome ∙ some.1) in
      sum_by-IsPermutation (λ (row : Row). bit (has_outcome row.outcome s)) (map row_of es) rows moved
      ∙ (sum_by_map (λ (row : Row). bit (has_outcome row.outcome s)) row_of es ∙ one)

  whole : sum (map runs_of rows) ≡ length seen
  whole = sum-map runs_of rows ∙ (sum_by-IsPermutation runs_of (map row_of es) rows moved
      ∙ (sum_by_map runs_of row_of es ∙ (sym (sum_by_map (λ (t : Tally). t.runs) (λ (e : Outcome × Tally). e.1) es) ∙ counted.whole)))

  rows_apart : IsDistinct row_same rows
  rows_apart = IsDistinct-IsPermutation row_same (λ a b. same_back a.outcome b.outcome) (map row_of es) rows moved (rows_distinct es distinct)

  neighbours : (d : Row) (k : ℕ) → k + 1 < length rows → row_cmp (get_or rows k d) (get_or rows (k + 1) d) ≡ Less
  neighbours d k lt =
      let a = get_or rows k d in
      let b = get_or rows (k + 1) d in
      ranked_neighbours a b (ge_from_not_lt a.runs b.runs (sorted k d (omega arith) lt))
      (λ same. ties_stay_sorted before is_more before_order more_order (map row_of es) rows (entries_sorted es ordered) stable k d lt (tied a b same))
      (apart_from_distinct row_same rows k (k + 1) d rows_apart (omega arith) lt)

  pub are_rows : AreRowsOf seen rows
  are_rows = record { each = each; once = once; whole = whole; sorted = strictly rows neighbours }
