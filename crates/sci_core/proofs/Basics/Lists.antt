-- Lists in which one element is another.
use Rattle.std.proofs.Common.{◌≡◌, ℕ, Bool, true, false, if◌then◌else◌, List, get_or, set, refl, arith}
use Rattle.std.proofs.lemmas.Bool.{cases_eq, cases_lt}
use Rattle.std.proofs.lemmas.List.{length-set, get_or_past, get_or-set_same, get_or-set_other}

-- what holds of every element, and of the new one, holds of every element
pub at_set : {X : Type 0} (P : X → Type 0) (xs : List X) (i : ℕ) (x d : X) → ((j : ℕ) → P (get_or xs j d)) → P x → (j : ℕ) → P (get_or (set xs i x) j d)
at_set P xs i x d each here j = grind (arith, cases_eq, cases_lt, get_or-set_same, length-set, get_or_past, get_or-set_other)

-- the same of places, if what holds may differ with the place
pub at_place_set : {X : Type 0} (P : ℕ → X → Type 0) (xs : List X) (i : ℕ) (x d : X) → ((j : ℕ) → P j (get_or xs j d)) → P i x → (j : ℕ)
    → P j (get_or (set xs i x) j d)
at_place_set P xs i x d each here j = grind (arith, cases_eq, cases_lt, get_or-set_same, length-set, get_or_past, get_or-set_other)

pub if_either : {X : Type 0} (P : X → Type 0) (b : Bool) (x y : X) → P x → P y → P (if b then x else y)
if_either P true x y h k = h
if_either P false x y h k = k

-- each by what the test gives
pub if_cases : {X : Type 0} (P : X → Type 0) (b : Bool) (x y : X) → (b ≡ true → P x) → (b ≡ false → P y) → P (if b then x else y)
if_cases P true x y h k = h refl
if_cases P false x y h k = k refl
