-- Optional values.
use Rattle.std.proofs.Common.{◌≡◌, ℕ, zero, suc, ◌<◌, nat_lt, if◌then◌else◌, List, [], ◌∷◌, ◌++◌, length, replicate, get_or, Option, Some, None}
use Rattle.std.proofs.Common.{refl, ap, subst, arith, inl, inr}
use Rattle.std.proofs.lemmas.Bool.{ltb-true}
use Rattle.std.specs.{Prelude.{◌⊎◌, IfSome, IsSome, option_map, slice_get}, Option.{option_or}}
use Rattle.sci_core.proofs.Basics.Lists.{if_cases}

-- what holds of an optional value if it is there, holds of it
pub of_some : {X : Type 0} (P : X → Type 0) (o : Option X) (x : X) → o ≡ Some x → IfSome o P → P x
of_some {X = X} P o x e h = subst (λ (o_ : Option X). IfSome o_ P) e h

-- a value that is there
pub found : {A : Type 0} (o : Option A) → IsSome o → (x : A) × (o ≡ Some x)
found None h = cc
found (Some x) h = (x, refl)

-- what is made of a value that is there
pub map_some : {A B : Type 0} (f : A → B) (o : Option A) → IsSome o → IsSome (option_map f o)
map_some f None some = cc
map_some f (Some x) some = refl

-- two values that are there, and are one
pub same_some : {A : Type 0} (x y : A) → Some x ≡ Some y → x ≡ y
same_some x y e = cc

-- a value that is there below a bound alone
pub if_below : {X : Type 0} (a b : ℕ) (P : X → Type 0) (o : Option X) → (a < b → IfSome o P) → IfSome (if nat_lt a b then o else None) P
if_below {X = X} a b P o h =
    if_cases (λ (made : Option X). IfSome made P) (nat_lt a b) o None (λ within. h (ltb-true a b within)) (λ beyond. tt)

-- what holds of each value of a list that has none
pub none_in : {X : Type 0} (P : X → Type 0) (count place : ℕ) → IfSome (get_or (replicate count None) place None) P
none_in P zero place = tt
none_in P (suc count) zero = tt
none_in P (suc count) (suc place) = none_in P count place

-- the first of two that is there
pub after_none : {X : Type 0} (first second : Option X) → first ≡ None → option_or first second ≡ second
after_none None second e = refl
after_none (Some x) second e = cc

pub found_first : {X : Type 0} (first second : Option X) (x : X) → first ≡ Some x → option_or first second ≡ Some x
found_first None second x e = cc
found_first (Some y) second x e = e

-- an element of a list with one more at its end
pub at_end : {A : Type 0} (xs : List A) (x : A) (k : ℕ) (y : A) → slice_get (xs ++ x ∷ []) k ≡ Some y
    → ((k < length xs) × (slice_get xs k ≡ Some y)) ⊎ ((k ≡ length xs) × (x ≡ y))
at_end [] x zero y e = inr (refl, same_some x y e)
at_end [] x (suc k) y e = cc
at_end (z ∷ xs) x zero y e = inl (omega arith, e)
at_end (z ∷ xs) x (suc k) y e = elim (at_end xs x k y e) [ inl h ↦ inl (omega (arith, h.0), h.1) | inr h ↦ inr (ap suc h.0, h.1) ]
