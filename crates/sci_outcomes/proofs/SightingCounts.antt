-- What is counted of sightings, and one more of them.
use Rattle.std.proofs.Common.{◌≡◌, ◌≤◌, ◌<◌, ℕ, zero, suc, ◌+◌, ◌==◌, Bool, true, false, cond, if◌then◌else◌, arith, List, [], ◌∷◌, ◌++◌, Option, Some}
use Rattle.std.proofs.Common.{None, length, map, get_or, refl, sym, ap, ◌∙◌, add-one}
use Rattle.std.proofs.lemmas.List.{Folds.{list_any-append}, Sums.{get_or-le-sum_by, sum_by-cons, sum_by_push}}
use Rattle.std.proofs.Math.Bool.{or-false}
use Rattle.std.specs.{Prelude.{count_by, unwrap_or, not, ◌&&◌, ◌||◌}, List.{list_any, position_or_len, sum_by}}
use Rattle.sci_outcomes.specs.declared.{histogram.Tally.{Tally}, outcome.Sighting.{Sighting}}
use Rattle.sci_outcomes.specs.Rows.{tally_by, with_run}

-- 1 for what passes
abbrev pub bit : Bool → ℕ
bit b = cond b 1 0

-- ---- the first that passes

pub first_none : {X : Type 0} (p : X → Bool) (xs : List X) (x : X) → count_by p xs ≡ 0 → p x ≡ true → position_or_len p (xs ++ x ∷ []) ≡ length xs
first_none p [] x none is = rw is refl
first_none p (y ∷ ys) x none is =
    elim (p y) as (λ b. cond b 1 0 + count_by p ys ≡ 0 → cond (not b) (1 + position_or_len p (ys ++ x ∷ [])) 0 ≡ length (y ∷ ys)) [
      | true ↦ λ e. absurd (omega (arith, e))
      | false ↦ λ e. let rest : position_or_len p (ys ++ x ∷ []) ≡ length ys = first_none p ys x (omega (arith, e)) is in
          omega (arith, rest)
    ] (sym (sum_by-cons (λ z. cond (p z) 1 0) y ys) ∙ none)

pub first_some : {X : Type 0} (p : X → Bool) (xs : List X) (x : X) (n : ℕ) → count_by p xs ≡ suc n → position_or_len p (xs ++ x ∷ []) ≡ position_or_len p xs
first_some p [] x n some = absurd (omega (arith, some))
first_some p (y ∷ ys) x n some =
    elim (p y) as (λ b. cond b 1 0 + count_by p ys ≡ suc n → cond (not b) (1 + position_or_len p (ys ++ x ∷ [])) 0 ≡ cond (not b) (1 + position_or_len p ys) 0)
    [ true ↦ λ e. refl | false ↦ λ e. ap (λ k. 1 + k) (first_some p ys x n (omega (arith, e))) ] (sym (sum_by-cons (λ z. cond (p z) 1 0) y ys) ∙ some)

pub any_none : (p : Sighting → Bool) (xs : List Sighting) → count_by p xs ≡ 0 → list_any (λ s. p s && s.in_order) xs ≡ false
any_none p [] none = refl
any_none p (y ∷ ys) none =
    elim (p y) as (λ b. cond b 1 0 + count_by p ys ≡ 0 → ((b && y.in_order) || list_any (λ s. p s && s.in_order) ys) ≡ false)
    [ true ↦ λ e. absurd (omega (arith, e)) | false ↦ λ e. any_none p ys (omega (arith, e)) ] (sym (sum_by-cons (λ z. cond (p z) 1 0) y ys) ∙ none)

-- ---- one more

tally_at : (Sighting → Bool) → List Sighting → ℕ → Option Tally
tally_at test seen n = if n == 0 then None else Some record {
  runs = n;
  first = position_or_len test seen;
  in_order = list_any (λ s. test s && s.in_order) seen;
}

any_more : (p : Sighting → Bool) (seen : List Sighting) (x : Sighting) → p x ≡ true
    → list_any (λ s. p s && s.in_order) (seen ++ x ∷ []) ≡ (list_any (λ s. p s && s.in_order) seen || x.in_order)
any_more p seen x is = list_any-append (λ s. p s && s.in_order) seen (x ∷ [])
    ∙ ap (λ b. list_any (λ s. p s && s.in_order) seen || b) (ap (λ b. (b && x.in_order) || false) is ∙ or-false x.in_order)

any_same : (p : Sighting → Bool) (seen : List Sighting) (x : Sighting) → p x ≡ false
    → list_any (λ s. p s && s.in_order) (seen ++ x ∷ []) ≡ list_any (λ s. p s && s.in_order) seen
any_same p seen x is = list_any-append (λ s. p s && s.in_order) seen (x ∷ [])
    ∙ (ap (λ b. list_any (λ s. p s && s.in_order) seen || ((b && x.in_order) || false)) is ∙ or-false _)

suc_apart : (n : ℕ) → (suc n == 0) ≡ false
suc_apart n = grind arith

some_at : (p : Sighting → Bool) (seen : List Sighting) (n : ℕ)
    → tally_at p seen (suc n) ≡ Some record { runs = suc n; first = position_or_len p seen; in_order = list_any (λ s. p s && s.in_order) seen }
unfolding tally_at
some_at p seen n = ap (λ b. if b then None else Some record { runs = suc n; first = position_or_len p seen; in_order = list_any (λ s. p s && s.in_order) seen })
    (suc_apart n)

-- one that passes
more_at : (p : Sighting → Bool) (seen : List Sighting) (x : Sighting) (n : ℕ) → count_by p seen ≡ n → p x ≡ true
    → Some (with_run (tally_at p seen n) (length seen) x.in_order) ≡ tally_at p (seen ++ x ∷ []) (n + 1)
unfolding tally_at
more_at p seen x zero none is =
    let first : position_or_len p (seen ++ x ∷ []) ≡ length seen = first_none p seen x none is in
    let any : list_any (λ s. p s && s.in_order) (seen ++ x ∷ []) ≡ x.in_order = any_more p seen x is ∙ ap (λ b. b || x.in_order) (any_none p seen none) in
    let place : length seen + 0 ≡ length seen = omega arith in
    rw (first, any) (ap (λ (k : ℕ). Some record { runs = 1; first = k; in_order = x.in_order }) place)
more_at p seen x (suc n) some is =
    let first : position_or_len p (seen ++ x ∷ []) ≡ position_or_len p seen = first_some p seen x n some in
    let later : Some record { runs = suc (suc n); first = position_or_len p seen; in_order = list_any (λ s. p s && s.in_order) seen || x.in_order } ≡ tally_at p
    (seen ++ x ∷ []) (suc (suc n)) = sym (some_at p (seen ++ x ∷ []) (suc n) ∙ (rw (first, any_more p seen x is) refl)) in
    ap (λ t. Some (with_run t (length seen) x.in_order)) (some_at p seen n) ∙ (rw add-one later)

-- one that doesn't
same_at : (p : Sighting → Bool) (seen : List Sighting) (x : Sighting) (n : ℕ) → count_by p seen ≡ n → p x ≡ false
    → tally_at p seen n ≡ tally_at p (seen ++ x ∷ []) n
unfolding tally_at
same_at p seen x zero none is = refl
same_at p seen x (suc n) some is = some_at p seen n ∙ sym (some_at p (seen ++ x ∷ []) n ∙ (rw (first_some p seen x n some, any_same p seen x is) refl))

pub tally_more : (p : Sighting → Bool) (seen : List Sighting) (x : Sighting) → p x ≡ true
    → Some (with_run (tally_by p seen) (length seen) x.in_order) ≡ tally_by p (seen ++ x ∷ [])
unfolding tally_at
tally_more p seen x is = more_at p seen x (count_by p seen) refl is
    ∙ ap (tally_at p (seen ++ x ∷ [])) (sym (sum_by_push (λ s. cond (p s) 1 0) seen x ∙ ap (λ b. count_by p seen + cond b 1 0) is))

pub tally_same : (p : Sighting → Bool) (seen : List Sighting) (x : Sighting) → p x ≡ false → tally_by p seen ≡ tally_by p (seen ++ x ∷ [])
unfolding tally_at
tally_same p seen x is =
    let counts : count_by p (seen ++ x ∷ []) ≡ count_by p seen =
    sum_by_push (λ s. cond (p s) 1 0) seen x ∙ (ap (λ b. count_by p seen + cond b 1 0) is ∙ omega arith) in
    same_at p seen x (count_by p seen) refl is ∙ ap (tally_at p (seen ++ x ∷ [])) (sym counts)

-- ---- what a tally says

tally_says : (p : Sighting → Bool) (seen : List Sighting) (n : ℕ) (t : Tally) → count_by p seen ≡ n → tally_at p seen n ≡ Some t
    → (t.runs ≡ n) × (t.first ≡ position_or_len p seen) × (t.in_order ≡ list_any (λ s. p s && s.in_order) seen) × (1 ≤ t.runs)
unfolding tally_at
tally_says p seen zero t none is = let none_some : None ≡ Some t = is in absurd cc
tally_says p seen (suc n) t some is =
    let same : Some t ≡ Some record { runs = suc n; first = position_or_len p seen; in_order = list_any (λ s. p s && s.in_order) seen } =
    sym is ∙ some_at p seen n in
    let inside = λ (o : Option Tally). unwrap_or o t in
    let runs : t.runs ≡ suc n = ap (λ (o : Option Tally). (inside o).runs) same in
    (runs, ap (λ (o : Option Tally). (inside o).first) same, ap (λ (o : Option Tally). (inside o).in_order) same, omega (arith, runs))

pub tally_is : (p : Sighting → Bool) (seen : List Sighting) (t : Tally) → tally_by p seen ≡ Some t
    → (t.runs ≡ count_by p seen) × (t.first ≡ position_or_len p seen) × (t.in_order ≡ list_any (λ s. p s && s.in_order) seen) × (1 ≤ t.runs)
unfolding tally_at
tally_is p seen t is = tally_says p seen (count_by p seen) t refl is

-- if one passes, there is a tally
tally_there : (p : Sighting → Bool) (seen : List Sighting) (n : ℕ) → 1 ≤ n → (t : Tally) × (tally_at p seen n ≡ Some t)
tally_there p seen zero le = absurd (omega (arith, le))
tally_there p seen (suc n) le = (_, some_at p seen n)

pub some_tally : (p : Sighting → Bool) (seen : List Sighting) (k : ℕ) (d : Sighting) → k < length seen → p (get_or seen k d) ≡ true
    → (t : Tally) × (tally_by p seen ≡ Some t)
unfolding tally_at
some_tally p seen k d lt is =
    let most : cond (p (get_or seen k d)) 1 0 ≤ count_by p seen = get_or-le-sum_by (λ s. cond (p s) 1 0) seen k d lt in
    let one : bit (p (get_or seen k d)) ≡ 1 = ap bit is in
    tally_there p seen (count_by p seen) (omega (arith, most, one))

-- ---- what a function gives

pub map_same : {A : Type 0} (xs : List A) → map (λ x. x) xs ≡ xs
map_same [] = refl
map_same (x ∷ xs) = ap (λ (ys : List _). x ∷ ys) (map_same xs)

pub sum_by_map : {X Y : Type 0} (f : Y → ℕ) (g : X → Y) (xs : List X) → sum_by f (map g xs) ≡ sum_by (λ x. f (g x)) xs
sum_by_map f g [] = refl
sum_by_map f g (x ∷ xs) = sum_by-cons f (g x) (map g xs) ∙ (ap (λ n. f (g x) + n) (sum_by_map f g xs) ∙ sym (sum_by-cons (λ y. f (g y)) x xs))
