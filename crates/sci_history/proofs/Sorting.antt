-- A stable sort by a number puts a list in that order.
use Rattle.std.proofs.Common.{◌≡◌, ℕ, zero, suc, ◌+◌, ◌<◌, ◌≤◌, Bool, false, eqb, ltb, not, ◌&&◌, List, [], ◌∷◌, map, get_or, refl, sym, ap, ◌∙◌, arith}
use Rattle.std.proofs.lemmas.Bool.{cases_Bool, cases_order, eq-eqb, ne_eqb, lt-ltb, le-ltb, ltb-false}
use Rattle.std.proofs.lemmas.List.{append-nil, map-append}
use Rattle.std.proofs.lemmas.List.Elements.{All-from_recursion, recursion_from_All, filter_agree}
use Rattle.std.proofs.lemmas.List.Sorted.{IsNonDecreasingBy-from_all_adjacent, All-permutation}
use Rattle.std.specs.List.{filter, Sorted.{IsPermutation, IsSortedBy, IsStableBy, IsNonDecreasingBy, ties}}
use Rattle.sci_history.specs.Placed.{in_order}
use Rattle.sci_history.proofs.Order.{IsInOrder, HasKeysBelow, filter_yes, filter_no, filter_none, all_weaker, in_order_same, in_order-ordered}

in_order_from_non_decreasing : {X : Type 0} (key : X → ℕ) (xs : List X) → IsNonDecreasingBy key xs → IsInOrder key xs
in_order_from_non_decreasing key [] h = tt
in_order_from_non_decreasing key (x ∷ xs) h = (
  recursion_from_All (λ y. key x ≤ key y) xs (λ k d lt. h 0 (suc k) d (omega arith) (omega arith)),
  in_order_from_non_decreasing key xs (λ i j d le lt. h (suc i) (suc j) d (omega arith) (omega arith)),
)

tie_is : (a b : ℕ) → (not (ltb a b) && not (ltb b a)) ≡ eqb b a
tie_is a b = grind (arith, cases_order, le-ltb, eq-eqb, lt-ltb, ne_eqb)

-- a test that compares numbers
abbrev pub Compares : {X : Type 0} → (X → X → Bool) → (X → ℕ) → Type 0
Compares {X} lt key = (x y : X) → lt x y ≡ ltb (key x) (key y)

-- what a stable sort leaves is the list in order, if some element has each key
pub sorted_is : {X : Type 0} (lt : X → X → Bool) (key : X → ℕ) (at : ℕ → X) → Compares lt key → ((k : ℕ) → key (at k) ≡ k) → (bound : ℕ) (xs ys : List X)
    → IsSortedBy lt ys → IsStableBy lt xs ys → IsPermutation xs ys → HasKeysBelow key bound xs → ys ≡ in_order key bound xs
sorted_is {X} lt key at compares at_is bound xs ys sorted stable moved below =
    let rises : IsNonDecreasingBy key ys =
    IsNonDecreasingBy-from_all_adjacent key ys
    (λ k d next. ltb-false (key (get_or ys (k + 1) d)) (key (get_or ys k d))
    (sym (compares (get_or ys (k + 1) d) (get_or ys k d)) ∙ sorted k d (omega arith) next)) in
    let low : HasKeysBelow key bound ys =
    recursion_from_All (λ x. key x < bound) ys (All-permutation (λ x. key x < bound) xs ys moved (All-from_recursion (λ x. key x < bound) xs below)) in
    let tied : (k : ℕ) (y : X) → ties lt (at k) y ≡ eqb (key y) k =
    λ k y. rw (compares (at k) y, compares y (at k), at_is k) (tie_is k (key y)) in
    let same : (k : ℕ) → k < bound → filter (λ x. eqb (key x) k) xs ≡ filter (λ x. eqb (key x) k) ys =
    λ k lt_bound. sym (filter_agree (ties lt (at k)) (λ x. eqb (key x) k) (tied k) xs) ∙ sym (stable (at k))
    ∙ filter_agree (ties lt (at k)) (λ x. eqb (key x) k) (tied k) ys in
    sym (in_order_same key bound xs ys same ∙ in_order-ordered key bound ys (in_order_from_non_decreasing key ys rises) low)

-- ---- in_order

-- a greater bound leaves it
in_order-past : {X : Type 0} (key : X → ℕ) (bound more : ℕ) (xs : List X) → HasKeysBelow key bound xs → in_order key (more + bound) xs ≡ in_order key bound xs
unfolding in_order
in_order-past key bound zero xs below = let same : 0 + bound ≡ bound = omega arith in ap (λ (b : ℕ). in_order key b xs) same
in_order-past key bound (suc more) xs below =
    let next : suc more + bound ≡ suc (more + bound) = omega arith in
    let none : filter (λ x. eqb (key x) (more + bound)) xs ≡ [] =
    filter_none (λ x. eqb (key x) (more + bound)) xs
    (all_weaker (λ x. key x < bound) (λ x. eqb (key x) (more + bound) ≡ false) (λ x lt. ne_eqb (key x) (more + bound) (λ e. absurd (omega arith))) xs
    below) in
    rw (next, none, in_order-past key bound more xs below) (append-nil (in_order key bound xs))

pub in_order-bound : {X : Type 0} (key : X → ℕ) (a b : ℕ) (xs : List X) → HasKeysBelow key a xs → HasKeysBelow key b xs → in_order key a xs ≡ in_order key b xs
in_order-bound key a b xs low below =
    let same : b + a ≡ a + b = omega arith in
    sym (in_order-past key a b xs low) ∙ ap (λ (n : ℕ). in_order key n xs) same ∙ in_order-past key b a xs below

map-filter : {X Y : Type 0} (f : X → Y) (p : Y → Bool) (xs : List X) → map f (filter (λ x. p (f x)) xs) ≡ filter p (map f xs)
map-filter f p [] = refl
map-filter f p (x ∷ xs) = grind (arith, cases_Bool, filter_yes, filter_no, map-filter f p xs)

pub map-in_order : {X Y : Type 0} (f : X → Y) (key : Y → ℕ) (bound : ℕ) (xs : List X)
    → map f (in_order (λ x. key (f x)) bound xs) ≡ in_order key bound (map f xs)
unfolding in_order
map-in_order f key zero xs = refl
map-in_order f key (suc bound) xs = grind (arith, map-append, map-filter, map-in_order f key bound xs, map-filter f (λ y. eqb (key y) bound) xs)

pub keys_below_map : {X Y : Type 0} (f : X → Y) (key : Y → ℕ) (bound : ℕ) (xs : List X) → HasKeysBelow key bound (map f xs)
    → HasKeysBelow (λ x. key (f x)) bound xs
keys_below_map f key bound [] h = tt
keys_below_map f key bound (x ∷ xs) h = (h.0, keys_below_map f key bound xs h.1)
