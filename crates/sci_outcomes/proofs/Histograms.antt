-- A histogram of what was seen, and its rows.
use Rattle.std.proofs.Common.{◌≡◌, ℕ, ◌<◌, ◌+◌, ◌*◌, ◌==◌, ◌||◌, not, if◌then◌else◌, Bool, true, false, cond, arith}
use Rattle.std.proofs.Common.{List, [], ◌∷◌, ◌++◌, Option, Some, None, get_or, length-append, refl, sym, ap, subst, ◌∙◌}
use Rattle.std.proofs.Math.Path.{fun_ext}
use Rattle.std.proofs.lemmas.Cmp.{eq_by_cmp_equiv, lists_total, nat_cmp_total, on_total, then_total}
use Rattle.std.proofs.lemmas.Map.Entries.{btree_map_get_place, sum_by-insert_entry}
use Rattle.std.proofs.lemmas.{Bool.{ne_eqb}, List.{append-nil, length-map, Elements.{All-map, filter-append}, Sums.{sum_by-cons}}, Option.{slice_get-get_or}}
use Rattle.std.specs.{Prelude.{count_by, filter, is_some, option_map, unwrap_or}, List.{list_any}}
use Rattle.std.specs.{BTreeMap.{BTreeMap, IsOrdered, Updates, get, insert_entry}, Map.{keys_of}}
use Rattle.std.specs.{Cmp.{IsTotalOrder}, Ordering.{eq_by_cmp}}
use Rattle.sci_allowed.specs.{Outcome.{held_cmp, outcome_cmp, replied_cmp}, declared.outcome.{FinalWord.{FinalWord}, Outcome.{Outcome}, Replied.{Replied}}}
use Rattle.sci_outcomes.specs.declared.{histogram.{Histogram.{Histogram}, Tally.{Tally}}, outcome.Sighting.{Sighting}}
use Rattle.sci_outcomes.specs.Rows.{AreCrowded, HasCounted, has_outcome, outcomes_in, tally_by, unseen_of, with_run}
use Rattle.sci_allowed.specs.declared.rows.AllowedRow.{AllowedRow}
use Rattle.sci_outcomes.proofs.SightingCounts.{tally_more, tally_same}

-- ---- the order of outcomes

replied_total : IsTotalOrder replied_cmp
replied_total = then_total (on_total (λ (r : Replied). r.node) nat_cmp_total)
    (then_total (on_total (λ (r : Replied). r.serial) nat_cmp_total) (on_total (λ (r : Replied). r.word) nat_cmp_total))

held_total : IsTotalOrder held_cmp
held_total = then_total (on_total (λ (h : FinalWord). h.line) nat_cmp_total)
    (then_total (on_total (λ (h : FinalWord). h.word) nat_cmp_total) (on_total (λ (h : FinalWord). h.value) nat_cmp_total))

pub outcome_total : IsTotalOrder outcome_cmp
outcome_total = then_total (on_total (λ (o : Outcome). o.replies.items) (lists_total replied_total))
    (on_total (λ (o : Outcome). o.last.items) (lists_total held_total))

abbrev pub is_same : Outcome → Outcome → Bool
is_same = eq_by_cmp outcome_cmp

pub same_back : (a b : Outcome) → is_same a b ≡ is_same b a
same_back = (eq_by_cmp_equiv outcome_total).symm

-- outcomes that are the same are had by the same sightings
pub same_sightings : (a b : Outcome) → is_same a b ≡ true → has_outcome a ≡ has_outcome b
same_sightings a b is = fun_ext (λ (s : Sighting). (eq_by_cmp_equiv outcome_total).congr a b s.outcome is)

-- ---- one more

module _ (old : Histogram) (tallies : BTreeMap Outcome Tally) (seen : List Sighting) (x : Sighting) (tally : Tally) (counted : HasCounted old seen)
    (tally_is : tally ≡ with_run (get outcome_cmp old.tallies x.outcome) old.runs x.in_order) where
  some_tally : (q : Outcome) → is_same x.outcome q ≡ true → Some tally ≡ tally_by (has_outcome q) (seen ++ x ∷ [])
  some_tally q is =
      ap Some tally_is
      ∙ (ap (λ t. Some (with_run t old.runs x.in_order)) (counted.each x.outcome ∙ ap (λ p. tally_by p seen) (same_sightings x.outcome q is))
      ∙ (ap (λ n. Some (with_run (tally_by (has_outcome q) seen) n x.in_order)) counted.many ∙ tally_more (has_outcome q) seen x (same_back q x.outcome ∙ is)))

  each_tally : (q : Outcome) (b : Bool) → is_same x.outcome q ≡ b → get outcome_cmp tallies q ≡ cond b (Some tally) (get outcome_cmp old.tallies q)
      → get outcome_cmp tallies q ≡ tally_by (has_outcome q) (seen ++ x ∷ [])
  each_tally q true is now = now ∙ some_tally q is
  each_tally q false is now = now ∙ (counted.each q ∙ tally_same (has_outcome q) seen x (same_back q x.outcome ∙ is))

  runs_of : (before : Option Tally) (n : ℕ) (b : Bool) → (with_run before n b).runs ≡ unwrap_or (option_map (λ t. t.runs) before) 0 + 1
  runs_of None n b = refl
  runs_of (Some t) n b = refl

  pub counted_more : Updates outcome_cmp old.tallies tallies x.outcome (Some tally)
      → tallies.entries ≡ insert_entry outcome_cmp old.tallies.entries x.outcome tally → IsOrdered outcome_cmp old.tallies
      → HasCounted (record { tallies = tallies; runs = old.runs + 1 }) (seen ++ x ∷ [])
  counted_more updates entries ordered = grind (arith, length-append, sum_by-insert_entry, outcome_total, runs_of, each_tally)

-- ---- what was seen

counts_if : {X : Type 0} (p : X → Bool) (x : X) (xs : List X) (b : Bool) → p x ≡ b → (count_by p xs == 0) ≡ not (list_any p xs)
    → (count_by p (x ∷ xs) == 0) ≡ not (b || list_any p xs)
counts_if p x xs true is rest =
    let sum = sum_by-cons (λ (y : _). cond {A = ℕ} (p y) 1 0) x xs in
    let one : cond {A = ℕ} (p x) 1 0 ≡ 1 = ap (λ (b : Bool). cond {A = ℕ} b 1 0) is in
    ne_eqb (count_by p (x ∷ xs)) 0 (λ none. absurd (omega arith))
counts_if p x xs false is rest = grind (arith, sum_by-cons)

-- nothing is counted exactly if none passes
pub none_counted : {X : Type 0} (p : X → Bool) (xs : List X) → (count_by p xs == 0) ≡ not (list_any p xs)
none_counted p [] = refl
none_counted p (x ∷ xs) = counts_if p x xs (p x) refl (none_counted p xs)

some_if : (any : Bool) (tally : Tally) → is_some (if not any then None else Some tally) ≡ any
some_if true tally = refl
some_if false tally = refl

-- an outcome has a tally exactly if it was seen
pub counted_has : (histogram : Histogram) (seen : List Sighting) (outcome : Outcome) → HasCounted histogram seen
    → is_some (get outcome_cmp histogram.tallies outcome) ≡ list_any (has_outcome outcome) seen
counted_has histogram seen outcome counted = grind (arith, none_counted, some_if)

-- the outcomes of a histogram differ, and each was seen
pub crowded : (histogram : Histogram) (most operations : ℕ) → IsOrdered outcome_cmp histogram.tallies → most < outcomes_in histogram * operations
    → (seen : List Sighting) → HasCounted histogram seen → AreCrowded most operations seen
crowded histogram most operations ordered many seen counted =
    let es = histogram.tallies.entries in
    let key = λ (e : Outcome × Tally). e.0 in
    record {
      outcomes = keys_of es;
      apart = ordered;
      had = All-map (λ (o : Outcome). list_any (has_outcome o) seen ≡ true) key es (λ k d lt.
          let e : Outcome × Tally = get_or es k d in
          let there : get outcome_cmp histogram.tallies e.0 ≡ Some e.1 =
          btree_map_get_place outcome_total histogram.tallies k e.0 e.1 ordered (slice_get-get_or es k d lt) in
          sym (counted_has histogram seen e.0 counted) ∙ ap (λ (o : Option Tally). is_some o) there);
      many = subst (λ (n : ℕ). most < n * operations) (sym (length-map es key)) many;
    }

-- a row whose outcome was seen isn't one of the others
pub unseen_kept : (seen : List Sighting) (rows : List AllowedRow) (row : AllowedRow) → list_any (has_outcome row.outcome) seen ≡ true
    → unseen_of seen (rows ++ row ∷ []) ≡ unseen_of seen rows
unseen_kept seen rows row is =
    let test = λ (r : AllowedRow). not (list_any (has_outcome r.outcome) seen) in
    filter-append test rows (row ∷ [])
    ∙ (ap (λ (b : Bool). filter test rows ++ (if not b then row ∷ [] else [])) is ∙ append-nil (filter test rows))
