-- The outcomes that were seen and the others are as many as a run of the script can have.
use Rattle.std.proofs.Common.{◌≡◌, ◌==◌, ◌<◌, ◌≤◌, ◌+◌, ◌&&◌, not, ℕ, suc, Bool, true, false, if◌then◌else◌, List, [], ◌∷◌, length, map, get_or, refl, sym}
use Rattle.std.proofs.Common.{ap, ◌∙◌}
use Rattle.std.proofs.Common.{All, arith, inl, inr}
use Rattle.std.proofs.lemmas.Bool.{and_from, and_parts, cases_Bool, eqb-true}
use Rattle.std.proofs.lemmas.Cmp.{eq_by_cmp_equiv, nat_cmp_total, tied_itself}
use Rattle.std.proofs.lemmas.List.{get_or-map, length-map, Elements.{All-contains, All-map}, Filters.{length-filter_both}}
use Rattle.std.proofs.lemmas.List.{Folds.{Any-from_list_any, list_any-from_Any}, Kept.{IsStrictlySortedBy-filter}}
use Rattle.std.proofs.lemmas.Map.{Keys.{IsDistinct-from_apart, IsDistinct-from_sorted, apart_from_distinct}, Made.{length-from_same_keys}}
use Rattle.std.proofs.lemmas.Map.Views.{any-filter_same}
use Rattle.std.specs.Cmp.{Equal-is, both_ways}
use Rattle.std.specs.{List.{IsDistinct, filter, list_any}, Prelude.{count_by}}
use Rattle.std.specs.Ordering.{eq_by_cmp, is_eq, nat_cmp, ordering_then}
use Rattle.std.specs.declared.cmp.Ordering.{Ordering, TheVariants.{Equal}}
use Rattle.sci_orders.proofs.Keeping.{contains_map}
use Rattle.sci_text.specs.Script.{ScriptValue}
use Rattle.sci_allowed.proofs.Sameness.{equal_outcome}
use Rattle.sci_allowed.specs.contracts.outcome.{OutcomeOrd.TheImpl.Laws.{matches_eq-law}}
use Rattle.sci_allowed.specs.{Allowed.{AreAllowed, IsAllowed}, Outcome.{outcome_cmp, shown_of}}
use Rattle.sci_allowed.specs.declared.{outcome.Outcome.{Outcome}, rows.AllowedRow.{AllowedRow}}
use Rattle.sci_outcomes.proofs.Histograms.{is_same, none_counted, outcome_total, same_back, same_sightings}
use Rattle.sci_outcomes.specs.Rows.{AreRowsOf, has_outcome, row_cmp, unseen_of}
use Rattle.sci_outcomes.specs.declared.{histogram.Row.{Row}, outcome.Sighting.{Sighting}}

-- what is counted is there
any_counted : {X : Type 0} (p : X → Bool) (xs : List X) → 1 ≤ count_by p xs → list_any p xs ≡ true
any_counted p xs some = elim (cases_Bool (list_any p xs)) [
  | inl has ↦ has
  | inr isnt ↦
      let none : (count_by p xs == 0) ≡ true = none_counted p xs ∙ ap not isnt in
      absurd (let is = eqb-true (count_by p xs) 0 none in omega (arith, is, some))
]

kept_rows : (p : Outcome → Bool) (rows : List AllowedRow)
    → length (filter (λ row. p row.outcome) rows) ≡ length (filter p (map (λ row. row.outcome) rows))
kept_rows p [] = refl
kept_rows p (row ∷ rows) = one (p row.outcome) (kept_rows p rows)
  where
    one : (b : Bool) → length (filter (λ (r : AllowedRow). p r.outcome) rows) ≡ length (filter p (map (λ (r : AllowedRow). r.outcome) rows))
        → length (if b then row ∷ filter (λ (r : AllowedRow). p r.outcome) rows else filter (λ (r : AllowedRow). p r.outcome) rows)
        ≡ length (if b then row.outcome ∷ filter p (map (λ (r : AllowedRow). r.outcome) rows) else filter p (map (λ (r : AllowedRow). r.outcome) rows))
    one true same = ap (λ (n : ℕ). suc n) same
    one false same = same

module _ (script : ScriptValue) (window : ℕ) (seen : List Sighting) (rows : List Row) (allowed : List AllowedRow) (are : AreRowsOf seen rows)
    (all : AreAllowed script window (map (λ row. row.outcome) allowed)) (among : All (λ row. IsAllowed script window (shown_of row.outcome)) rows) where
  abbrev was_seen : Outcome → Bool
  was_seen o = list_any (has_outcome o) seen

  abbrev row_outcomes : List Outcome
  row_outcomes = map (λ (row : Row). row.outcome) rows

  abbrev outcomes : List Outcome
  outcomes = map (λ (row : AllowedRow). row.outcome) allowed

  -- rows of one outcome would have as many runs, and no two rows stand so
  rows_apart : (a b : Row) → a.runs ≡ count_by (has_outcome a.outcome) seen → b.runs ≡ count_by (has_outcome b.outcome) seen
      → eq_by_cmp row_cmp a b ≡ false → is_same a.outcome b.outcome ≡ false
  rows_apart a b first second apart = elim (cases_Bool (is_same a.outcome b.outcome)) [
    | inl same ↦
        let runs : a.runs ≡ b.runs = first ∙ (ap (λ (p : Sighting → Bool). count_by p seen) (same_sightings a.outcome b.outcome same) ∙ sym second) in
        let tie : nat_cmp b.runs a.runs ≡ Equal = ap (λ (n : ℕ). nat_cmp b.runs n) runs ∙ tied_itself nat_cmp_total b.runs in
        let both : row_cmp a b ≡ Equal =
        ap (λ (o : Ordering). ordering_then o (outcome_cmp a.outcome b.outcome)) tie ∙ (Equal-is (outcome_cmp a.outcome b.outcome)).0 same in
        absurd (let tied : eq_by_cmp row_cmp a b ≡ true = ap is_eq both in cc)
    | inr isnt ↦ isnt
  ]

  rows_distinct : IsDistinct is_same row_outcomes
  rows_distinct = IsDistinct-from_apart is_same row_outcomes (λ i j d lt below. (
      let r : Row = record { outcome = d; runs = 0; first = 0; in_order = false } in
      let f = λ (row : Row). row.outcome in
      let long = length-map rows f in
      let low : i < length rows = omega (arith, lt, below, long) in
      let high : j < length rows = omega (arith, below, long) in
      let apart = apart_from_distinct (eq_by_cmp row_cmp) rows i j r (IsDistinct-from_sorted row_cmp rows are.sorted) lt high in
      ap (λ (o : Outcome). is_same o (get_or row_outcomes j d)) (get_or-map f rows i r d low)
      ∙ (ap (λ (o : Outcome). is_same (get_or rows i r).outcome o) (get_or-map f rows j r d high)
      ∙ rows_apart (get_or rows i r) (get_or rows j r) (are.each i r low).runs (are.each j r high).runs apart)))

  -- the rows' outcomes are those of all that were seen
  seen_again : (o q : Outcome) → is_same q o ≡ true → was_seen o ≡ was_seen q
  seen_again o q is = ap (λ (p : Sighting → Bool). list_any p seen) (sym (same_sightings q o is))

  row_there : (q : Outcome) → list_any (is_same q) row_outcomes ≡ true → (was_seen q && list_any (is_same q) outcomes) ≡ true
  row_there q has =
      let any = Any-from_list_any (is_same q) row_outcomes has in
      let Known = λ (o : Outcome). IsAllowed script window (shown_of o) × (was_seen o ≡ true) in
      let each = All-map Known (λ (row : Row). row.outcome) rows (λ k d lt. (
      let is = are.each k d lt in
      let runs = is.runs in
      let some = is.some in
      (among k d lt, any_counted _ seen (omega (arith, runs, some))))) in
      let known = All-contains Known row_outcomes any.1 each (any.0, any.2, any.3) in
      let there = all.all (shown_of any.1) known.0 in
      let equal : is_same any.1 there.1 ≡ true = sym (matches_eq-law any.1 there.1) ∙ equal_outcome any.1 there.1 (sym there.4) in
      and_from (was_seen q) (list_any (is_same q) outcomes) (sym (seen_again any.1 q any.4) ∙ known.1)
      (list_any-from_Any (is_same q) outcomes
      (there.0, there.1, there.2, there.3, (eq_by_cmp_equiv outcome_total).congr q any.1 there.1 any.4 ∙ equal))

  row_back : (q : Outcome) → (was_seen q && list_any (is_same q) outcomes) ≡ true → list_any (is_same q) row_outcomes ≡ true
  row_back q has =
      let s = Any-from_list_any (has_outcome q) seen (and_parts (was_seen q) (list_any (is_same q) outcomes) has).0 in
      let one = All-contains (λ (x : Sighting). count_by (λ (row : Row). has_outcome row.outcome x) rows ≡ 1) seen s.1 are.once (s.0, s.2, s.3) in
      let row = Any-from_list_any (λ (r : Row). has_outcome r.outcome s.1) rows (any_counted _ rows (omega (arith, one))) in
      let there = contains_map (λ (r : Row). r.outcome) rows row.1 (row.0, row.2, row.3) in
      let same : is_same q row.1.outcome ≡ true =
      (eq_by_cmp_equiv outcome_total).congr q s.1.outcome row.1.outcome s.4 ∙ (same_back s.1.outcome row.1.outcome ∙ row.4) in
      list_any-from_Any (is_same q) row_outcomes
      (there.0, row.1.outcome, there.1, there.2, same)

  pub row_count : length rows + length (unseen_of seen allowed) ≡ length allowed
  row_count =
      let ones = filter was_seen outcomes in
      let distinct = IsDistinct-from_sorted outcome_cmp ones (IsStrictlySortedBy-filter outcome_cmp was_seen outcomes all.sorted) in
      let keys = length-from_same_keys (eq_by_cmp_equiv outcome_total) row_outcomes ones rows_distinct distinct
      (λ q. both_ways (list_any (is_same q) row_outcomes) (list_any (is_same q) ones)
      (λ is. any-filter_same (is_same q) was_seen (was_seen q) (λ o same. seen_again o q same) outcomes ∙ row_there q is)
      (λ is. row_back q (sym (any-filter_same (is_same q) was_seen (was_seen q) (λ o same. seen_again o q same) outcomes) ∙ is))) in
      let long = length-map rows (λ (row : Row). row.outcome) in
      let both = length-filter_both (λ (row : AllowedRow). was_seen row.outcome) (λ (row : AllowedRow). not (was_seen row.outcome)) (λ row. refl) allowed in
      let kept = kept_rows was_seen allowed in
      omega (arith, keys, long, both, kept)
