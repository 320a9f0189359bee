-- Standings that a comparison finds equal are one position.
use Rattle.std.proofs.Common.{◌≡◌, ◌&&◌, ℕ, nat_eq, Bool, true, List, [], ◌∷◌, refl, sym, ap, subst, ◌∙◌, rules, arith}
use Rattle.std.proofs.lemmas.Bool.{and_parts, eq-eqb, eqb-true}
use Rattle.std.specs.{Cmp.Lexicographic.{pointwise, same_text}, Prelude.{Vec}}
use Rattle.sci_orders.specs.{Positions.{Position, lists_of, position_of}, declared.standing.{Answer.{Answer}, Standing.{Standing}}}
use Rattle.sci_orders.specs.contracts.standing.StandingPartialEq.TheImpl
use Rattle.sci_orders.specs.declared.standing.Answer.TheVariants as answer
use Rattle.sci_orders.specs.contracts.standing.AnswerPartialEq.TheImpl as answers

pub same_answer : (a b : Answer) → (answers.ghosts).eq a b ≡ true → a ≡ b
same_answer answer.Waiting answer.Waiting is = refl
same_answer answer.Stored answer.Stored is = refl
same_answer (answer.Got x) (answer.Got y) is = let t : nat_eq x y ≡ true = is in ap answer.Got (eqb-true x y t)
same_answer a b is = search rules

same_answers : (xs ys : List Answer) → pointwise (answers.ghosts).eq xs ys ≡ true → xs ≡ ys
same_answers [] [] is = refl
same_answers [] (y ∷ ys) is = cc
same_answers (x ∷ xs) [] is = cc
same_answers (x ∷ xs) (y ∷ ys) is =
    let both = and_parts ((answers.ghosts).eq x y) (pointwise (answers.ghosts).eq xs ys) is in
    ap (λ (z : Answer). z ∷ xs) (same_answer x y both.0) ∙ ap (λ (zs : List Answer). y ∷ zs) (same_answers xs ys both.1)

pub same_position : (p q : Position) → p.answers ≡ q.answers → p.words ≡ q.words → p ≡ q
same_position p q answers words = grind arith

abbrev same_items : {Z : Type 0} → Vec Answer Z → Vec Answer Z → Bool
same_items a b = pointwise (answers.ghosts).eq a.items b.items

-- answers of each node
same_lists : {Z : Type 0} (xs ys : List (Vec Answer Z)) → pointwise same_items xs ys ≡ true
    → lists_of xs ≡ lists_of ys
same_lists [] [] is = refl
same_lists [] (y ∷ ys) is = cc
same_lists (x ∷ xs) [] is = cc
same_lists (x ∷ xs) (y ∷ ys) is =
    let both = and_parts (same_items x y) (pointwise same_items xs ys) is in
    ap (λ (z : List Answer). z ∷ lists_of xs) (same_answers x.items y.items both.0) ∙ ap (λ (zs : List (List Answer)). y.items ∷ zs) (same_lists xs ys both.1)

pub same_standing : (x y : Standing) → (TheImpl.ghosts).eq x y ≡ true → position_of x ≡ position_of y
same_standing x y is =
    let both = and_parts (pointwise same_items x.answers.items y.answers.items) (pointwise nat_eq x.words.items y.words.items) is in
    same_position (position_of x) (position_of y) (same_lists x.answers.items y.answers.items both.0) (same_text x.words.items y.words.items (sym both.1))

-- ---- standings of one position are found equal

and_true : (x y : Bool) → x ≡ true → y ≡ true → (x && y) ≡ true
and_true x y one other = cc

equal_answer : (a : Answer) → (answers.ghosts).eq a a ≡ true
equal_answer answer.Waiting = refl
equal_answer answer.Stored = refl
equal_answer (answer.Got x) = eq-eqb x x refl

equal_answers : (xs ys : List Answer) → xs ≡ ys → pointwise (answers.ghosts).eq xs ys ≡ true
equal_answers [] [] is = refl
equal_answers [] (y ∷ ys) is = cc
equal_answers (x ∷ xs) [] is = cc
equal_answers (x ∷ xs) (y ∷ ys) is =
    let head : x ≡ y = cc in
    let tail : xs ≡ ys = cc in
    and_true ((answers.ghosts).eq x y) (pointwise (answers.ghosts).eq xs ys) (subst (λ (z : Answer). (answers.ghosts).eq x z ≡ true) head (equal_answer x))
    (equal_answers xs ys tail)

equal_words : (xs ys : List ℕ) → xs ≡ ys → pointwise nat_eq xs ys ≡ true
equal_words [] [] is = refl
equal_words [] (y ∷ ys) is = cc
equal_words (x ∷ xs) [] is = cc
equal_words (x ∷ xs) (y ∷ ys) is =
    let head : x ≡ y = cc in
    let tail : xs ≡ ys = cc in
    and_true (nat_eq x y) (pointwise nat_eq xs ys) (eq-eqb x y head) (equal_words xs ys tail)

equal_lists : {Z : Type 0} (xs ys : List (Vec Answer Z)) → lists_of xs ≡ lists_of ys → pointwise same_items xs ys ≡ true
equal_lists [] [] is = refl
equal_lists [] (y ∷ ys) is = cc
equal_lists (x ∷ xs) [] is = cc
equal_lists (x ∷ xs) (y ∷ ys) is =
    let head : x.items ≡ y.items = cc in
    let tail : lists_of xs ≡ lists_of ys = cc in
    and_true (same_items x y) (pointwise same_items xs ys) (equal_answers x.items y.items head) (equal_lists xs ys tail)

pub equal_standing : (x y : Standing) → position_of x ≡ position_of y → (TheImpl.ghosts).eq x y ≡ true
equal_standing x y is =
    and_true (pointwise same_items x.answers.items y.answers.items) (pointwise nat_eq x.words.items y.words.items)
    (equal_lists x.answers.items y.answers.items (ap (λ (p : Position). p.answers) is))
    (equal_words x.words.items y.words.items (ap (λ (p : Position). p.words) is))
