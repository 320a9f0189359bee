-- A histogram behind another one: tallies of runs, and of those behind them.
use Rattle.std.proofs.Common.{◌≡◌, ◌≤◌, ◌<◌, ℕ, ◌+◌, ◌||◌, Bool, true, false, cond, arith, List, [], ◌∷◌, ◌++◌, Option, Some, None, length, length-append, refl}
use Rattle.std.proofs.Common.{sym, ap, subst, ◌∙◌}
use Rattle.std.proofs.Math.Path.{fun_ext}
use Rattle.std.proofs.lemmas.Cmp.{eq_by_cmp_equiv}
use Rattle.std.proofs.lemmas.List.{append_assoc, append-nil, map-append, Sums.{fold-append, prefix_len-le-length, sum_by-append, sum_by-cons}}
use Rattle.std.proofs.lemmas.Map.Iter.{rest_more, rest_so_far}
use Rattle.std.proofs.lemmas.Map.{NonePasses}
use Rattle.std.proofs.lemmas.Map.Entries.{lookup_head, lookup_tail, none_past_head, sum_by-insert_entry}
use Rattle.std.proofs.lemmas.Map.Keys.{IsDistinct-from_sorted, IsDistinct-tail}
use Rattle.std.specs.{Prelude.{option_map, unwrap_or, ◌^◌, IfSome}, List.{IsDistinct, fold, sum_by}, Option.{option_copied}}
use Rattle.std.specs.{Borrow.{Bor}, Iterator.{Yields}, Map.Iter.{TakesFirst}}
use Rattle.std.specs.{BTreeMap.{BTreeMap, IsOrdered, Updates, get, insert_entry, is_at}, Map.{keys_of, lookup, values_of}}
use Rattle.sci_allowed.specs.{Outcome.{outcome_cmp}, declared.outcome.Outcome.{Outcome}}
use Rattle.sci_outcomes.specs.declared.{histogram.{Histogram.{Histogram}, Tally.{Tally}}, outcome.Sighting.{Sighting}}
use Rattle.sci_outcomes.specs.Rows.{HasCounted, has_outcome, joined, tally_by}
use Rattle.sci_outcomes.proofs.SightingCounts.{map_same, tally_is, tally_more, tally_same}
use Rattle.sci_outcomes.proofs.Histograms.{is_same, outcome_total, same_back}

-- ---- tallies

-- a tally, and that of runs behind it, if there are some
abbrev pub behind : Option Tally → ℕ → Option Tally → Option Tally
behind before ahead None = before
behind before ahead (Some later) = Some (joined before ahead later)

behind_behind : (a b c : Option Tally) (n m : ℕ) → behind a n (behind b m c) ≡ behind (behind a n b) (n + m) c
behind_behind a b None n m = refl
behind_behind None None (Some t) n m =
    let sum : n + (m + t.first) ≡ (n + m) + t.first = omega arith in
    ap (λ k. Some record { runs = t.runs; first = k; in_order = t.in_order }) sum
behind_behind (Some s) None (Some t) n m = refl
behind_behind None (Some s) (Some t) n m = refl
behind_behind (Some r) (Some s) (Some t) n m =
    let sum : r.runs + (s.runs + t.runs) ≡ (r.runs + s.runs) + t.runs = omega arith in
    ap (λ k. Some record { runs = k; first = r.first; in_order = r.in_order || (s.in_order || t.in_order) }) sum
    ∙ ap (λ b. Some record { runs = (r.runs + s.runs) + t.runs; first = r.first; in_order = b }) (or_or r.in_order s.in_order t.in_order)
  where
    or_or : (a b c : Bool) → (a || (b || c)) ≡ ((a || b) || c)
    or_or true b c = refl
    or_or false b c = refl

one_if : (p : Sighting → Bool) (seen : List Sighting) (x : Sighting) (b : Bool) → p x ≡ b
    → behind (tally_by p seen) (length seen) (tally_by p (x ∷ [])) ≡ tally_by p (seen ++ x ∷ [])
one_if p seen x true is = ap (behind (tally_by p seen) (length seen)) (sym (tally_more p [] x is)) ∙ tally_more p seen x is
one_if p seen x false is = ap (behind (tally_by p seen) (length seen)) (sym (tally_same p [] x is)) ∙ tally_same p seen x is

-- the tally of runs and of those behind them
pub tally_append : (p : Sighting → Bool) (seen more : List Sighting) → behind (tally_by p seen) (length seen) (tally_by p more) ≡ tally_by p (seen ++ more)
tally_append p seen [] = sym (ap (tally_by p) (append-nil seen))
tally_append p seen (x ∷ xs) =
    let rest : behind (tally_by p (x ∷ [])) 1 (tally_by p xs) ≡ tally_by p (x ∷ xs) = tally_append p (x ∷ []) xs in
    let long : length seen + 1 ≡ length (seen ++ x ∷ []) = sym (length-append seen (x ∷ [])) in
    ap (behind (tally_by p seen) (length seen)) (sym rest)
    ∙ (behind_behind (tally_by p seen) (tally_by p (x ∷ [])) (tally_by p xs) (length seen) 1
    ∙ (ap (λ t. behind t (length seen + 1) (tally_by p xs)) (one_if p seen x (p x) refl)
    ∙ (ap (λ n. behind (tally_by p (seen ++ x ∷ [])) n (tally_by p xs)) long
    ∙ (tally_append p (seen ++ x ∷ []) xs ∙ ap (tally_by p) (append_assoc seen (x ∷ []) xs)))))

-- ---- maps

abbrev pub runs_in : List (Outcome × Tally) → ℕ
runs_in es = sum_by (λ t. t.runs) (values_of es)

module _ (n : ℕ) (q : Outcome) where
  -- the tally of an outcome after that of an entry is joined to it, if the entry is of this outcome
  abbrev pub with_entry : Option Tally → Outcome × Tally → Option Tally
  with_entry before e = cond (is_same e.0 q) (Some (joined before n e.1)) before

  -- and after those of some entries
  abbrev pub with_entries : Option Tally → List (Outcome × Tally) → Option Tally
  with_entries before es = fold with_entry before es

  passed_over : (es : List (Outcome × Tally)) (before : Option Tally) → NonePasses (is_same q) es → with_entries before es ≡ before
  passed_over [] before none = refl
  passed_over (e ∷ es) before none =
      ap (λ b. with_entries (cond b (Some (joined before n e.1)) before) es) (same_back e.0 q ∙ none.0) ∙ passed_over es before none.1

  entries_if : (e : Outcome × Tally) (es : List (Outcome × Tally)) (before : Option Tally) (b : Bool) → is_same q e.0 ≡ b
      → IsDistinct is_same (keys_of (e ∷ es)) → (with_entries before es ≡ behind before n (lookup (is_at (outcome_cmp q)) es))
      → with_entries before (e ∷ es) ≡ behind before n (lookup (is_at (outcome_cmp q)) (e ∷ es))
  entries_if e es before true is distinct rest =
      ap (λ b. with_entries (cond b (Some (joined before n e.1)) before) es) (same_back e.0 q ∙ is)
      ∙ (passed_over es (Some (joined before n e.1)) (none_past_head (eq_by_cmp_equiv outcome_total) q e es distinct is)
      ∙ ap (behind before n) (sym (lookup_head (is_at (outcome_cmp q)) e es is)))
  entries_if e es before false is distinct rest =
      ap (λ b. with_entries (cond b (Some (joined before n e.1)) before) es) (same_back e.0 q ∙ is)
      ∙ (rest ∙ ap (behind before n) (sym (lookup_tail (is_at (outcome_cmp q)) e es is)))

  -- those of all entries are that of the outcome's entry
  pub all_entries : (es : List (Outcome × Tally)) (before : Option Tally) → IsDistinct is_same (keys_of es)
      → with_entries before es ≡ behind before n (lookup (is_at (outcome_cmp q)) es)
  all_entries [] before distinct = refl
  all_entries (e ∷ es) before distinct =
      entries_if e es before (is_same q e.0) refl distinct (all_entries es before (IsDistinct-tail is_same e.0 (keys_of es) distinct))

-- a map has one tally for an outcome
same_tally : (map : BTreeMap Outcome Tally) (a b : Outcome) → is_same a b ≡ true → get outcome_cmp map a ≡ get outcome_cmp map b
same_tally map a b is =
    ap (λ (test : Outcome → Bool). lookup test map.entries) (fun_ext (λ (k : Outcome). (eq_by_cmp_equiv outcome_total).congr a b k is))

-- one more entry
module _ (n : ℕ) (old mid new : BTreeMap Outcome Tally) (es : List (Outcome × Tally)) (e : Outcome × Tally) (tally : Tally)
    (tally_is : tally ≡ joined (get outcome_cmp mid e.0) n e.1)
    (each : (q : Outcome) → get outcome_cmp mid q ≡ with_entries n q (get outcome_cmp old q) es) where
  more_if : (q : Outcome) (b : Bool) → is_same e.0 q ≡ b
      → cond b (Some tally) (get outcome_cmp mid q) ≡ cond b (Some (joined (get outcome_cmp mid q) n e.1)) (get outcome_cmp mid q)
  more_if q true is = ap Some (tally_is ∙ ap (λ t. joined t n e.1) (same_tally mid e.0 q is))
  more_if q false is = refl

  pub one_more : Updates outcome_cmp mid new e.0 (Some tally)
      → (q : Outcome) → get outcome_cmp new q ≡ with_entries n q (get outcome_cmp old q) (es ++ e ∷ [])
  one_more updates q = grind (arith, more_if, is_same, fold-append)

runs_joined : (before : Option Tally) (n : ℕ) (later : Tally)
    → (joined before n later).runs ≡ unwrap_or (option_map (λ t. t.runs) before) 0 + later.runs
runs_joined None n later = omega arith
runs_joined (Some t) n later = refl

pub runs_more : (n : ℕ) (mid new : BTreeMap Outcome Tally) (e : Outcome × Tally) (tally : Tally) → tally ≡ joined (get outcome_cmp mid e.0) n e.1
    → IsOrdered outcome_cmp mid → new.entries ≡ insert_entry outcome_cmp mid.entries e.0 tally
    → runs_in new.entries ≡ runs_in mid.entries + e.1.runs
runs_more n mid new e tally tally_is ordered entries = grind (arith, sum_by-insert_entry, outcome_total, runs_joined)

-- no tally has more runs than all together
pub runs_within : (test : Outcome → Bool) (es : List (Outcome × Tally)) → unwrap_or (option_map (λ (t : Tally). t.runs) (lookup test es)) 0 ≤ runs_in es
runs_within test [] = omega arith
runs_within test (e ∷ es) =
    let sum = sum_by-cons (λ (t : Tally). t.runs) e.1 (values_of es) in
    let rest = runs_within test es in
    elim (test e.0) as (λ b. unwrap_or (option_map (λ (t : Tally). t.runs) (cond b (Some e.1) (lookup test es))) 0 ≤ runs_in (e ∷ es)) [
      | true ↦ omega (arith, sum)
      | false ↦ omega (arith, sum, rest)
    ]

-- ---- an entry

-- the entries so far, the next one, and those that come
pub entries_at : (all ys s t u : List (Outcome × Tally)) (e : Outcome × Tally) (r : Option (Outcome × Tally)) → s ≡ all
    → Yields (TakesFirst (λ p. p)) s ys t → r ≡ Some e → TakesFirst (λ p. p) t r u → all ≡ ys ++ e ∷ u
entries_at all ys s t u e r start yields is step =
    sym start ∙ (rest_so_far (λ p. p) ys s t yields ∙ (ap (λ xs. xs ++ t) (map_same ys) ∙ ap (λ xs. ys ++ xs) (rest_more (λ p. p) t u r e is step)))

pub runs_append : (es others : List (Outcome × Tally)) → runs_in (es ++ others) ≡ runs_in es + runs_in others
runs_append es others =
    ap (sum_by (λ (t : Tally). t.runs)) (map-append (λ e. e.1) es others)
    ∙ sum_by-append (λ (t : Tally). t.runs) (values_of es) (values_of others)

runs_from : (e : Outcome × Tally) (es : List (Outcome × Tally)) → runs_in (e ∷ es) ≡ e.1.runs + runs_in es
runs_from e es = sum_by-cons (λ (t : Tally). t.runs) e.1 (values_of es)

-- what there is of an outcome has few runs
few_if : (found : Option (Bor Tally)) (got : Option Tally) (k n : ℕ) → option_copied found ≡ got
    → unwrap_or (option_map (λ (t : Tally). t.runs) got) 0 + k < n → IfSome found (λ t. t.now.runs + k < n)
few_if None got k n is lt = tt
few_if (Some t) got k n is lt = subst (λ (o : Option Tally). unwrap_or (option_map (λ (t : Tally). t.runs) o) 0 + k < n) (sym is) lt

module _ (old later : Histogram) (mid : BTreeMap Outcome Tally) (ys u : List (Outcome × Tally)) (e : Outcome × Tally) (seen more : List Sighting)
    (counted : HasCounted old seen) (behind_it : HasCounted later more) (all : later.tallies.entries ≡ ys ++ e ∷ u)
    (room : length seen + length more < 2 ^ 64) where
  -- an entry's runs and those that there are of its outcome
  pub runs_fit : (found : Option (Bor Tally)) → option_copied found ≡ get outcome_cmp mid e.0
      → runs_in mid.entries ≡ runs_in old.tallies.entries + runs_in ys → IfSome found (λ t. t.now.runs + e.1.runs < 2 ^ 64)
  runs_fit found is whole = grind (arith, runs_append, runs_from, runs_within, few_if)

  -- the number of its first run
  pub first_fits : get outcome_cmp later.tallies e.0 ≡ Some e.1 → old.runs + e.1.first < 2 ^ 64
  first_fits there = grind (arith, tally_is, prefix_len-le-length)

-- ---- histograms

-- what was seen, and behind it what a histogram behind has counted
pub counted_behind : (old later : Histogram) (tallies : BTreeMap Outcome Tally) (runs : ℕ) (seen more : List Sighting) → HasCounted old seen
    → HasCounted later more → IsOrdered outcome_cmp later.tallies
    → ((q : Outcome) → get outcome_cmp tallies q ≡ with_entries old.runs q (get outcome_cmp old.tallies q) later.tallies.entries)
    → runs_in tallies.entries ≡ runs_in old.tallies.entries + runs_in later.tallies.entries → runs ≡ old.runs + later.runs
    → HasCounted (record { tallies = tallies; runs = runs }) (seen ++ more)
counted_behind old later tallies runs seen more counted behind_it ordered each whole runs_are =
    let long = length-append seen more in
    let first = counted.many in
    let second = behind_it.many in
    let one = counted.whole in
    let other = behind_it.whole in
    let distinct = IsDistinct-from_sorted outcome_cmp (keys_of later.tallies.entries) ordered in
    record {
      many = omega (arith, long, first, second, runs_are);
      each = λ q.
          each q
          ∙ (all_entries old.runs q later.tallies.entries (get outcome_cmp old.tallies q) distinct
          ∙ (ap (λ t. behind t old.runs (get outcome_cmp later.tallies q)) (counted.each q)
          ∙ (ap (λ t. behind (tally_by (has_outcome q) seen) old.runs t) (behind_it.each q)
          ∙ (ap (λ n. behind (tally_by (has_outcome q) seen) n (tally_by (has_outcome q) more)) first ∙ tally_append (has_outcome q) seen more))));
      whole = omega (arith, long, whole, one, other);
    }
