-- Outcomes that a comparison finds equal are the same, and the other way round.
use Rattle.std.proofs.Common.{◌≡◌, ◌&&◌, ℕ, nat_eq, Bool, true, List, [], ◌∷◌, refl, ap, subst, ◌∙◌, arith}
use Rattle.std.proofs.lemmas.Bool.{and_from, and_parts, eq-eqb, eqb-true}
use Rattle.std.specs.Cmp.Lexicographic.{pointwise}
use Rattle.sci_allowed.specs.{Outcome.{Shown, shown_of}, declared.outcome.{FinalWord.{FinalWord}, Outcome.{Outcome}, Replied.{Replied}}}
use Rattle.sci_allowed.specs.contracts.outcome.FinalWordPartialEq.TheImpl as held
use Rattle.sci_allowed.specs.contracts.outcome.OutcomePartialEq.TheImpl as outcomes
use Rattle.sci_allowed.specs.contracts.outcome.RepliedPartialEq.TheImpl as replies

module _ {X : Type 0} (E : X → X → Bool) (same : (a b : X) → E a b ≡ true → a ≡ b) (equal : (a : X) → E a a ≡ true) where
  same_each : (xs ys : List X) → pointwise E xs ys ≡ true → xs ≡ ys
  same_each [] [] is = refl
  same_each [] (y ∷ ys) is = cc
  same_each (x ∷ xs) [] is = cc
  same_each (x ∷ xs) (y ∷ ys) is =
      let both = and_parts (E x y) (pointwise E xs ys) is in
      ap (λ (z : X). z ∷ xs) (same x y both.0) ∙ ap (λ (zs : List X). y ∷ zs) (same_each xs ys both.1)

  equal_each : (xs ys : List X) → xs ≡ ys → pointwise E xs ys ≡ true
  equal_each [] [] is = refl
  equal_each [] (y ∷ ys) is = cc
  equal_each (x ∷ xs) [] is = cc
  equal_each (x ∷ xs) (y ∷ ys) is =
      let head : x ≡ y = cc in
      let tail : xs ≡ ys = cc in
      and_from (E x y) (pointwise E xs ys) (subst (λ (z : X). E x z ≡ true) head (equal x)) (equal_each xs ys tail)

-- ---- three numbers

numbers_same : (a b c x y z : ℕ) → (nat_eq a x && (nat_eq b y && nat_eq c z)) ≡ true → (a ≡ x) × ((b ≡ y) × (c ≡ z))
numbers_same a b c x y z is = grind (arith, and_parts, nat_eq, eqb-true)

numbers_equal : (a b c : ℕ) → (nat_eq a a && (nat_eq b b && nat_eq c c)) ≡ true
numbers_equal a b c =
    and_from (nat_eq a a) (nat_eq b b && nat_eq c c) (eq-eqb a a refl) (and_from (nat_eq b b) (nat_eq c c) (eq-eqb b b refl) (eq-eqb c c refl))

same_replied : (a b : Replied) → (replies.ghosts).eq a b ≡ true → a ≡ b
same_replied a b is = grind (arith, numbers_same)

equal_replied : (a : Replied) → (replies.ghosts).eq a a ≡ true
equal_replied a = numbers_equal a.node a.serial a.word

same_held : (a b : FinalWord) → (held.ghosts).eq a b ≡ true → a ≡ b
same_held a b is = grind (arith, numbers_same)

equal_held : (a : FinalWord) → (held.ghosts).eq a a ≡ true
equal_held a = numbers_equal a.line a.word a.value

-- ---- outcomes

pub same_shown : (a b : Shown) → a.replies ≡ b.replies → a.last ≡ b.last → a ≡ b
same_shown a b replies last = grind arith

pub same_outcome : (a b : Outcome) → (outcomes.ghosts).eq a b ≡ true → shown_of a ≡ shown_of b
same_outcome a b is = grind (arith, and_parts, same_shown, same_each, same_replied, equal_replied, same_held, equal_held)

pub equal_outcome : (a b : Outcome) → shown_of a ≡ shown_of b → (outcomes.ghosts).eq a b ≡ true
equal_outcome a b same = grind (arith, and_from, equal_each, same_replied, equal_replied, same_held, equal_held)
