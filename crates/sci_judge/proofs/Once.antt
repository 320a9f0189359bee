-- Words that are written once, one operation after another.
use Rattle.std.proofs.Common.{◌≡◌, ◌≢◌, ◌⊎◌, ℕ, zero, suc, ◌+◌, ◌<◌, Bool, true, false, ◌||◌, eqb, List}
use Rattle.std.proofs.Common.{[], ◌∷◌, ◌++◌, length, get_or, take, refl, sym, ap, subst, ◌∙◌, arith, inl, inr}
use Rattle.std.proofs.lemmas.{Bool.{cases_Bool, and_from, eq-eqb}, List.{take_more}}
use Rattle.std.specs.{List.{list_any}}
use Rattle.sci_judge.specs.declared.access.{Access.{Access}, Kind.TheVariants.{Load}}
use Rattle.sci_judge.specs.{Access.{is_writing, left_by}, Witness.{AreWrittenOnce, IsAt, writes}}
use Rattle.sci_judge.proofs.Refuted.{none_passes}

abbrev pub no_access : Access
no_access = record { processor = 0; address = 0; kind = Load 0; begin = 0; end = 0; line = 0 }

pub any_push : {X : Type 0} (p : X → Bool) (xs : List X) (x : X) → list_any p (xs ++ x ∷ []) ≡ (list_any p xs || p x)
any_push p [] x = elim (cases_Bool (p x)) [ inl yes_ ↦ rw yes_ refl | inr no_ ↦ rw no_ refl ]
any_push p (y ∷ xs) x = elim (cases_Bool (p y)) [ inl yes_ ↦ rw yes_ refl | inr no_ ↦ rw no_ (any_push p xs x) ]

-- what stands at a place of a list with one more
pub at_push : (xs : List Access) (a : Access) (i : ℕ) (x : Access) → IsAt (xs ++ a ∷ []) i x → IsAt xs i x ⊎ ((i ≡ length xs) × (a ≡ x))
at_push [] a zero x at = inr (refl, cc)
at_push [] a (suc i) x at = absurd cc
at_push (y ∷ xs) a zero x at = inl at
at_push (y ∷ xs) a (suc i) x at = elim (at_push xs a i x at) [
  | inl here ↦ inl here
  | inr end ↦ inr (omega (arith, end.0), end.1)
]

pub once_none : AreWrittenOnce []
once_none = record { once = λ i j x y at_x at_y writing_x writing_y same. absurd cc; never_zero = λ i x at writing zero. absurd cc }

-- the word of one operation more isn't among those before
pub record IsNew (xs : List Access) (a : Access) : Type 0 where
  pub fresh : is_writing a.kind ≡ true → list_any (writes (left_by a.kind)) xs ≡ false
  pub some : is_writing a.kind ≡ true → left_by a.kind ≢ 0

new_differs : (xs : List Access) (a : Access) (i : ℕ) (x : Access) → IsNew xs a → is_writing a.kind ≡ true → IsAt xs i x → is_writing x.kind ≡ true
    → left_by x.kind ≡ left_by a.kind → ⊥
new_differs xs a i x new writing_a at writing_x same = grind (arith, none_passes, and_from, eqb, eq-eqb)

pub once_push : (xs : List Access) (a : Access) → AreWrittenOnce xs → IsNew xs a → AreWrittenOnce (xs ++ a ∷ [])
once_push xs a before new = grind (arith, at_push, new_differs)

-- the same over the front of a list
pub once_more : (xs : List Access) (i : ℕ) (d : Access) → i < length xs → AreWrittenOnce (take i xs) → IsNew (take i xs) (get_or xs i d)
    → AreWrittenOnce (take (i + 1) xs)
once_more xs i d lt before new = subst AreWrittenOnce (sym (take_more xs i d lt)) (once_push (take i xs) (get_or xs i d) before new)

pub any_more : (p : Access → Bool) (xs : List Access) (i : ℕ) (d : Access) → i < length xs
    → list_any p (take (i + 1) xs) ≡ (list_any p (take i xs) || p (get_or xs i d))
any_more p xs i d lt = ap (list_any p) (take_more xs i d lt) ∙ any_push p (take i xs) (get_or xs i d)
