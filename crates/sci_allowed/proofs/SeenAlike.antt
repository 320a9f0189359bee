-- What is shown of a run depends on its entries and last contents alone.
use Rattle.std.proofs.Common.{◌≡◌, ℕ, zero, suc, ◌+◌, ◌<◌, List, [], ◌∷◌, length, map, Option, refl, sym, ap, ◌∙◌, arith}
use Rattle.std.proofs.Math.Path.{fun_ext}
use Rattle.std.specs.List.{All, cons_option, filter_map, flat_map, range_with_len}
use Rattle.sci_words.specs.declared.{stamped.Stamped.{Stamped}}
use Rattle.sci_history.specs.declared.entry.Entry.{Entry}
use Rattle.sci_core.specs.Size.{Size}
use Rattle.sci_orders.specs.{Orders.{IsOutcomeOf}, Positions.{Operations, Position, answer_at, own_of}}
use Rattle.sci_allowed.{proofs.Sameness.{same_shown}, specs.Outcome.{IsPlaceWithin, held_in, replies_at, replies_on, shown_at}}
use Rattle.sci_allowed.specs.declared.{outcome.{Replied.{Replied}}, place.Place.{Place}}

-- what two functions give of the numbers from one on is the same, if they give the same of each
pub gives_same : {Y : Type 0} (f g : ℕ → Option Y) (a n : ℕ) → ((i : ℕ) → i < a + n → f i ≡ g i)
    → filter_map f (range_with_len a n) ≡ filter_map g (range_with_len a n)
gives_same f g a zero same = refl
gives_same {Y = Y} f g a (suc n) same =
    ap (λ (o : Option Y). cons_option o (filter_map f (range_with_len (a + 1) n))) (same a (omega arith))
    ∙ ap (cons_option (g a)) (gives_same f g (a + 1) n (λ i low. same i (omega arith)))

-- the same of elements
pub makes_same : {X Y : Type 0} (P : X → Type 0) (f g : X → Y) (xs : List X) → All P xs → ((x : X) → P x → f x ≡ g x) → map f xs ≡ map g xs
makes_same P f g [] all same = refl
makes_same {Y = Y} P f g (x ∷ xs) all same =
    ap (λ (y : Y). y ∷ map f xs) (same x (all 0 x (omega arith)))
    ∙ ap (λ (ys : List Y). g x ∷ ys) (makes_same P f g xs (λ k d low. all (suc k) d (omega arith)) same)

module _ (size : Size) (operations : Operations) (entries : List Entry) (contents : List Stamped) (p q : Position)
    (one : IsOutcomeOf size operations entries contents p) (other : IsOutcomeOf size operations entries contents q) where
  same_answer : (n i : ℕ) → i < length (own_of operations n) → answer_at p n i ≡ answer_at q n i
  same_answer n i below =
      let has = one.all n i below in
      let e = has.0 in
      let at = λ (r : Position). ap (λ (m : ℕ). answer_at r m e.serial) has.2 ∙ ap (answer_at r n) has.3 in
      sym (at p) ∙ ((one.each e has.1).reply ∙ (sym ((other.each e has.1).reply) ∙ at q))

  same_replies_on : (n : ℕ) → replies_on operations p n ≡ replies_on operations q n
  same_replies_on n = grind (arith, gives_same, same_answer)

  same_replies : replies_at operations p ≡ replies_at operations q
  same_replies =
      ap (λ (f : ℕ → List Replied). flat_map f (range_with_len 0 (length operations))) (fun_ext (λ (n : ℕ). same_replies_on n))

  same_word : (place : Place) → IsPlaceWithin size.lines place → held_in p place ≡ held_in q place
  same_word place within = grind arith

  pub shown_same : (places : List Place) → All (IsPlaceWithin size.lines) places → shown_at operations places p ≡ shown_at operations places q
  shown_same places within =
      same_shown (shown_at operations places p) (shown_at operations places q) same_replies
      (makes_same (IsPlaceWithin size.lines) (held_in p) (held_in q) places within same_word)
