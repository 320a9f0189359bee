-- Lists put in the order of a key by filters.
use Rattle.std.proofs.Common.{◌≡◌, ℕ, zero, suc, ◌<◌, ◌≤◌, Bool, true, false, eqb, ltb, List, [], ◌∷◌, ◌++◌, length, refl, sym, ap, ◌∙◌, arith, inl, inr}
use Rattle.std.proofs.lemmas.Bool.{cases_Bool, cases_lt, eq-eqb, ne_eqb, eqb-true, lt-ltb, le-ltb, ltb-true}
use Rattle.std.proofs.lemmas.List.{length-append, Elements.{filter-append}}
use Rattle.std.specs.List.{filter, AllByRecursion}
use Rattle.sci_history.specs.Placed.{in_order}

-- ---- filters

pub filter_yes : {X : Type 0} (p : X → Bool) (x : X) (xs : List X) → p x ≡ true → filter p (x ∷ xs) ≡ x ∷ filter p xs
filter_yes p x xs e = rw e refl

pub filter_no : {X : Type 0} (p : X → Bool) (x : X) (xs : List X) → p x ≡ false → filter p (x ∷ xs) ≡ filter p xs
filter_no p x xs e = rw e refl

-- what passes both tests, in either order
pub filter-filter : {X : Type 0} (p q : X → Bool) (xs : List X) → filter p (filter q xs) ≡ filter q (filter p xs)
filter-filter p q [] = refl
filter-filter p q (x ∷ xs) = grind (arith, cases_Bool, filter_yes, filter_no, filter-filter p q xs)

-- a second test that the first implies
pub filter-implied : {X : Type 0} (p q : X → Bool) → ((x : X) → p x ≡ true → q x ≡ true) → (xs : List X) → filter p (filter q xs) ≡ filter p xs
filter-implied p q implies [] = refl
filter-implied p q implies (x ∷ xs) = grind (arith, cases_Bool, filter_yes, filter_no, filter-implied p q implies xs)

pub filter_all : {X : Type 0} (p : X → Bool) (xs : List X) → AllByRecursion (λ x. p x ≡ true) xs → filter p xs ≡ xs
filter_all p [] h = refl
filter_all p (x ∷ xs) h = rw (filter_yes p x xs h.0, filter_all p xs h.1) refl

pub filter_none : {X : Type 0} (p : X → Bool) (xs : List X) → AllByRecursion (λ x. p x ≡ false) xs → filter p xs ≡ []
filter_none p [] h = refl
filter_none p (x ∷ xs) h = rw (filter_no p x xs h.0, filter_none p xs h.1) refl

-- ---- what holds of each element

pub all_weaker : {X : Type 0} (P Q : X → Type 0) → ((x : X) → P x → Q x) → (xs : List X) → AllByRecursion P xs → AllByRecursion Q xs
all_weaker P Q f [] h = tt
all_weaker P Q f (x ∷ xs) h = (f x h.0, all_weaker P Q f xs h.1)

pub all-append : {X : Type 0} (P : X → Type 0) (xs ys : List X) → AllByRecursion P xs → AllByRecursion P ys → AllByRecursion P (xs ++ ys)
all-append P [] ys h k = k
all-append P (x ∷ xs) ys h k = (h.0, all-append P xs ys h.1 k)

pub all-filter : {X : Type 0} (P : X → Type 0) (p : X → Bool) (xs : List X) → AllByRecursion P xs → AllByRecursion P (filter p xs)
all-filter P p [] h = tt
all-filter P p (x ∷ xs) h = grind (arith, cases_Bool, filter_yes, filter_no, all-filter P p xs h.1)

-- what passes a test, passes it
pub all-passes : {X : Type 0} (p : X → Bool) (xs : List X) → AllByRecursion (λ x. p x ≡ true) (filter p xs)
all-passes p [] = tt
all-passes p (x ∷ xs) =
    elim (cases_Bool (p x)) [
      | inl y ↦ rw (filter_yes p x xs y) (y, all-passes p xs)
      | inr n ↦ rw (filter_no p x xs n) (all-passes p xs)
    ]

pub all_both : {X : Type 0} (P Q : X → Type 0) (xs : List X) → AllByRecursion P xs → AllByRecursion Q xs → AllByRecursion (λ x. P x × Q x) xs
all_both P Q [] h k = tt
all_both P Q (x ∷ xs) h k = ((h.0, k.0), all_both P Q xs h.1 k.1)

-- ---- lists whose keys don't fall

abbrev pub IsInOrder : {X : Type 0} → (X → ℕ) → List X → Type 0
IsInOrder key [] = Unit {0}
IsInOrder key (x ∷ xs) = AllByRecursion (λ y. key x ≤ key y) xs × IsInOrder key xs

pub IsInOrder-filter : {X : Type 0} (key : X → ℕ) (p : X → Bool) (xs : List X) → IsInOrder key xs → IsInOrder key (filter p xs)
IsInOrder-filter key p [] h = tt
IsInOrder-filter key p (x ∷ xs) h =
    let rest = IsInOrder-filter key p xs h.1 in
    elim (cases_Bool (p x)) [
      | inl y ↦ rw (filter_yes p x xs y) (all-filter (λ y. key x ≤ key y) p xs h.0, rest)
      | inr n ↦ rw (filter_no p x xs n) rest
    ]

abbrev pub HasKeysBelow : {X : Type 0} → (X → ℕ) → ℕ → List X → Type 0
HasKeysBelow key bound xs = AllByRecursion (λ x. key x < bound) xs

-- those below the bound stand before those at it
split_at : {X : Type 0} (key : X → ℕ) (bound : ℕ) (xs : List X) → IsInOrder key xs → HasKeysBelow key (suc bound) xs
    → filter (λ x. ltb (key x) bound) xs ++ filter (λ x. eqb (key x) bound) xs ≡ xs
split_at key bound [] ordered below = refl
split_at {X} key bound (x ∷ xs) ordered below =
    grind (
      arith,
      cases_lt,
      ne_eqb,
      filter_yes,
      lt-ltb,
      filter_no,
      all_both,
      filter_none,
      le-ltb,
      all_weaker,
      filter_all,
      eq-eqb,
      split_at key bound xs ordered.1 below.1,
    )

-- ---- in_order

-- it depends on what stands at each key alone
pub in_order_same : {X : Type 0} (key : X → ℕ) (bound : ℕ) (xs ys : List X)
    → ((k : ℕ) → k < bound → filter (λ x. eqb (key x) k) xs ≡ filter (λ x. eqb (key x) k) ys) → in_order key bound xs ≡ in_order key bound ys
unfolding in_order
in_order_same key zero xs ys same = refl
in_order_same key (suc bound) xs ys same = grind (arith, in_order_same key bound xs ys (λ k lt. same k (omega arith)), same bound (omega arith))

pub filter-in_order : {X : Type 0} (p : X → Bool) (key : X → ℕ) (bound : ℕ) (xs : List X) → filter p (in_order key bound xs) ≡ in_order key bound (filter p xs)
unfolding in_order
filter-in_order p key zero xs = refl
filter-in_order p key (suc bound) xs = grind (arith, filter-append, filter-filter, filter-in_order p key bound xs, filter-filter p (λ x. eqb (key x) bound) xs)

pub all-in_order : {X : Type 0} (P : X → Type 0) (key : X → ℕ) (bound : ℕ) (xs : List X) → AllByRecursion P xs → AllByRecursion P (in_order key bound xs)
unfolding in_order
all-in_order P key zero xs h = tt
all-in_order P key (suc bound) xs h = grind (arith, all-append, all-filter, all-in_order P key bound xs h)

none_below_zero : {X : Type 0} (key : X → ℕ) (xs : List X) → HasKeysBelow key 0 xs → [] ≡ xs
none_below_zero key [] h = refl
none_below_zero key (x ∷ xs) h = let lt : key x < 0 = h.0 in absurd (omega arith)

-- a list that is in order stays
pub in_order-ordered : {X : Type 0} (key : X → ℕ) (bound : ℕ) (xs : List X) → IsInOrder key xs → HasKeysBelow key bound xs → in_order key bound xs ≡ xs
unfolding in_order
in_order-ordered key zero xs ordered below = none_below_zero key xs below
in_order-ordered key (suc bound) xs ordered below =
    let low = filter (λ x. ltb (key x) bound) xs in
    let at_key : (k : ℕ) → k < bound → filter (λ x. eqb (key x) k) xs ≡ filter (λ x. eqb (key x) k) low =
    λ k lt. sym (filter-implied (λ x. eqb (key x) k) (λ x. ltb (key x) bound)
    (λ x e. lt-ltb (key x) bound (let is : key x ≡ k = eqb-true (key x) k e in omega arith)) xs) in
    let low_below : HasKeysBelow key bound low =
    all_weaker (λ x. ltb (key x) bound ≡ true) (λ x. key x < bound) (λ x e. ltb-true (key x) bound e) low (all-passes (λ x. ltb (key x) bound) xs) in
    rw (in_order_same key bound xs low at_key, in_order-ordered key bound low (IsInOrder-filter key (λ x. ltb (key x) bound) xs ordered) low_below)
    (split_at key bound xs ordered below)

-- elements of one key stay
pub IsInOrder-same : {X : Type 0} (key : X → ℕ) (k : ℕ) (xs : List X) → AllByRecursion (λ x. key x ≡ k) xs → IsInOrder key xs
IsInOrder-same key k [] h = tt
IsInOrder-same key k (x ∷ xs) h =
    let head : key x ≡ k = h.0 in
    (all_weaker (λ y. key y ≡ k) (λ y. key x ≤ key y) (λ y e. omega arith) xs h.1, IsInOrder-same key k xs h.1)

pub in_order_same_key : {X : Type 0} (key : X → ℕ) (bound k : ℕ) (xs : List X) → k < bound → AllByRecursion (λ x. key x ≡ k) xs → in_order key bound xs ≡ xs
in_order_same_key key bound k xs lt h =
    in_order-ordered key bound xs (IsInOrder-same key k xs h) (all_weaker (λ x. key x ≡ k) (λ x. key x < bound) (λ x e. omega arith) xs h)

-- nothing is lost
front_longer : {X : Type 0} (key : X → ℕ) (bound : ℕ) (x : X) (xs : List X) → key x < bound
    → length (in_order key bound (x ∷ xs)) ≡ suc (length (in_order key bound xs))
unfolding in_order
front_longer key zero x xs lt = absurd (omega arith)
front_longer key (suc bound) x xs lt =
    elim (cases_lt (key x) bound) [
      | inl below ↦
          let no : filter (λ y. eqb (key y) bound) (x ∷ xs) ≡ filter (λ y. eqb (key y) bound) xs =
          filter_no (λ y. eqb (key y) bound) x xs (ne_eqb (key x) bound (λ e. absurd (omega arith))) in
          rw no (omega (
            arith,
            front_longer key bound x xs below,
            length-append (in_order key bound (x ∷ xs)) (filter (λ y. eqb (key y) bound) xs),
            length-append (in_order key bound xs) (filter (λ y. eqb (key y) bound) xs),
          ))
      | inr le ↦
          let yes : filter (λ y. eqb (key y) bound) (x ∷ xs) ≡ x ∷ filter (λ y. eqb (key y) bound) xs =
          filter_yes (λ y. eqb (key y) bound) x xs (eq-eqb (key x) bound (omega arith)) in
          let same : in_order key bound (x ∷ xs) ≡ in_order key bound xs =
          in_order_same key bound (x ∷ xs) xs (λ k under. filter_no (λ y. eqb (key y) k) x xs (ne_eqb (key x) k (λ e. absurd (omega arith)))) in
          rw (yes, same) (omega (
            arith,
            length-append (in_order key bound xs) (x ∷ filter (λ y. eqb (key y) bound) xs),
            length-append (in_order key bound xs) (filter (λ y. eqb (key y) bound) xs),
          ))
    ]

pub length-in_order : {X : Type 0} (key : X → ℕ) (bound : ℕ) (xs : List X) → HasKeysBelow key bound xs → length (in_order key bound xs) ≡ length xs
length-in_order {X} key bound [] below = ap length (in_order-ordered key bound [] tt tt)
length-in_order key bound (x ∷ xs) below = front_longer key bound x xs below.0 ∙ ap suc (length-in_order key bound xs below.1)
