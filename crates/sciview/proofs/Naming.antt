-- The names that words give, from the title in front and the files behind it.
use Rattle.std.specs.List.{remove}
use Rattle.std.proofs.Common.{◌<◌, arith, get_or, length, map, ◌≡◌, ◌↔◌, ℕ, Bool, true, List, [], ◌∷◌, Option, Some, sym, ap, ◌∙◌, subst}
use Rattle.sciview.specs.Choice.{AreFiles, IsNamed, Named}

unsome : {A : Type 0} (x y : A) → Some x ≡ Some y → x ≡ y
unsome x y same = cc

head_same : (a b : List ℕ) (front back : List (List ℕ)) → a ∷ front ≡ b ∷ back → a ≡ b
head_same a b front back same = cc

tail_same : (a b : List ℕ) (front back : List (List ℕ)) → a ∷ front ≡ b ∷ back → front ≡ back
tail_same a b front back same = cc

abbrev pub names : Option (List ℕ) → List (List ℕ) → Named
names title files = record { title = title; files = files }

-- a title, and files behind it
pub title_given : (several : Bool) (words : List (List ℕ)) (title : List ℕ) (rest : List (List ℕ)) → words ≡ title ∷ rest → AreFiles several rest
    → (named : Named) → (Some (names (Some title) rest) ≡ Some named) ↔ IsNamed true several words named
title_given several words title rest at fit named = (
  λ same.
      let are = unsome (names (Some title) rest) named same in
      let is_files : rest ≡ named.files = ap (λ (n : Named). n.files) are in (
        title,
        sym (ap (λ (n : Named). n.title) are),
        at ∙ ap (λ (l : List (List ℕ)). title ∷ l) is_files,
        subst (AreFiles several) is_files fit,
      ),
  λ is.
      let whole = sym at ∙ is.2 in
      let of = tail_same title is.0 rest named.files whole in
      let titled = ap (λ (t : List ℕ). Some t) (head_same title is.0 rest named.files whole) ∙ sym is.1 in
      ap (λ (f : List (List ℕ)). Some (names (Some title) f)) of ∙ ap (λ (t : Option (List ℕ)). Some (names t named.files)) titled,
)

-- the first of some words, and those behind it
pub first_and_rest : {A : Type 0} (f : A → List ℕ) (words rest : List A) (title : A) → 0 < length words → title ≡ get_or words 0 title
    → rest ≡ remove words 0 → map f words ≡ f title ∷ map f rest
first_and_rest {A} f [] rest title some is left = absurd (omega (arith, some))
first_and_rest {A} f (w ∷ words) rest title some is left =
    ap (λ (x : A). f x ∷ map f words) (sym is) ∙ ap (λ (l : List A). f title ∷ map f l) (sym left)
