-- A sort and a `dedup` keep what is there.
use Rattle.std.proofs.Common.{◌≡◌, zero, suc, ◌⊎◌, Bool, true, List, [], ◌∷◌, map, refl, sym, subst, ◌∙◌, arith, inl, inr}
use Rattle.std.proofs.lemmas.List.{Elements.{Contains-append_cases, Contains-append_left, Contains-append_right}, Kept.{Any-dedup, Contains-from_dedup}}
use Rattle.std.specs.{Cmp.{IsEquivalence}, List.{Contains, dedup, flat_map}}

-- ---- elements

pub contains_here : {X : Type 0} (x : X) (xs : List X) → Contains (x ∷ xs) x
contains_here x xs = (0, (omega arith), refl)

pub contains_there : {X : Type 0} (x y : X) (xs : List X) → Contains xs y → Contains (x ∷ xs) y
contains_there x y xs has = (suc has.0, (let below = has.1 in omega arith), has.2)

pub contains_cases : {X : Type 0} (x y : X) (xs : List X) → Contains (x ∷ xs) y → (x ≡ y) ⊎ Contains xs y
contains_cases x y xs (zero, below, is) = inl is
contains_cases x y xs (suc k, below, is) = inr (k, (omega arith), is)

pub contains_none : {X Y : Type 0} (x : X) → Contains [] x → Y
contains_none x (k, below, is) = absurd (omega arith)

-- a list's elements each in its own list
pub contains_flat : {X Y : Type 0} (f : X → List Y) (xs : List X) (x : X) (y : Y) → Contains xs x → Contains (f x) y → Contains (flat_map f xs) y
contains_flat f [] x y has in_ = contains_none x has
contains_flat f (z ∷ xs) x y has in_ = elim (contains_cases z x xs has) [
  | inl is ↦ Contains-append_left (f z) (flat_map f xs) y (subst (λ (w : _). Contains (f w) y) (sym is) in_)
  | inr later ↦ Contains-append_right (f z) (flat_map f xs) y (contains_flat f xs x y later in_)
]

pub flat_contains : {X Y : Type 0} (f : X → List Y) (xs : List X) (y : Y) → Contains (flat_map f xs) y → (x : X) × Contains xs x × Contains (f x) y
flat_contains f [] y has = contains_none y has
flat_contains f (z ∷ xs) y has = elim (Contains-append_cases (f z) (flat_map f xs) y has) [
  | inl first ↦ (z, contains_here z xs, first)
  | inr rest ↦ (let found = flat_contains f xs y rest in (found.0, contains_there z found.0 xs found.1, found.2))
]

-- ---- what a function makes of the elements

pub contains_map : {X Y : Type 0} (f : X → Y) (xs : List X) (x : X) → Contains xs x → Contains (map f xs) (f x)
contains_map f [] x has = contains_none x has
contains_map f (z ∷ xs) x has = elim (contains_cases z x xs has) [
  | inl is ↦ subst (λ (w : _). Contains (f z ∷ map f xs) (f w)) is (contains_here (f z) (map f xs))
  | inr later ↦ contains_there (f z) (f x) (map f xs) (contains_map f xs x later)
]

pub map_contains : {X Y : Type 0} (f : X → Y) (xs : List X) (y : Y) → Contains (map f xs) y → (x : X) × Contains xs x × (f x ≡ y)
map_contains f [] y has = contains_none y has
map_contains f (z ∷ xs) y has = elim (contains_cases (f z) y (map f xs) has) [
  | inl is ↦ (z, contains_here z xs, is)
  | inr later ↦ (let found = map_contains f xs y later in (found.0, contains_there z found.0 xs found.1, found.2))
]

-- of those that are the same `dedup` keeps one, and nothing else
pub kept : {X Y : Type 0} (E : X → X → Bool) (f : X → Y) → IsEquivalence E → ((a b : X) → E a b ≡ true → f a ≡ f b) → (xs : List X) (y : Y)
    → Contains (map f xs) y → Contains (map f (dedup E xs)) y
kept E f e same xs y has =
    let at = map_contains f xs y has in
    let twin = Any-dedup e xs at.0 at.1 in
    subst (Contains (map f (dedup E xs))) (sym (same at.0 twin.1 twin.4) ∙ at.2) (contains_map f (dedup E xs) twin.1 (twin.0, twin.2, twin.3))

pub left : {X Y : Type 0} (E : X → X → Bool) (f : X → Y) (xs : List X) (y : Y) → Contains (map f (dedup E xs)) y → Contains (map f xs) y
left E f xs y has =
    let at = map_contains f (dedup E xs) y has in
    subst (Contains (map f xs)) at.2 (contains_map f xs at.0 (Contains-from_dedup E xs at.0 at.1))
