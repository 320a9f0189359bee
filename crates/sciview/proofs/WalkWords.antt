-- The words of a walk, from those of its numbers.
use Rattle.std.proofs.Common.{◌≡◌, ◌↔◌, ◌<◌, ◌^◌, ℕ, arith, length, get_or, IfSome, List, [], ◌∷◌, map, Option, Some, sym, ap, ◌∙◌, refl, subst}
use Rattle.sci_text.specs.Number.{number}
use Rattle.sci_random_schedules.specs.declared.random.Walk.{Walk}
use Rattle.sciview.specs.Choice.{FitsWalk, walk_words}

five : {X : Type 0} (f : X → List ℕ) (words : List X) (d : X) → length words ≡ 5
    → map f words ≡ f (get_or words 0 d) ∷ f (get_or words 1 d) ∷ f (get_or words 2 d) ∷ f (get_or words 3 d) ∷ f (get_or words 4 d) ∷ []
five f [] d long = absurd (omega arith)
five f (a ∷ []) d long = absurd (omega arith)
five f (a ∷ b ∷ []) d long = absurd (omega arith)
five f (a ∷ b ∷ c ∷ []) d long = absurd (omega arith)
five f (a ∷ b ∷ c ∷ e ∷ []) d long = absurd (omega arith)
five f (a ∷ b ∷ c ∷ e ∷ g ∷ []) d long = refl
five f (a ∷ b ∷ c ∷ e ∷ g ∷ h ∷ rest) d long = absurd (omega arith)

-- what a word is that says a number
abbrev Says : Option ℕ → List ℕ → Type 0
Says said word = (n : ℕ) → (said ≡ Some n) ↔ ((word ≡ number n) × (n < 2 ^ 64))

-- a word that says a number of a walk has it
agree : (said : Option ℕ) (word : List ℕ) (there n : ℕ) → said ≡ Some there → Says said word → word ≡ number n → n < 2 ^ 64 → there ≡ n
agree said word there n is says spelled fits = let same : said ≡ Some n = (says n).1 (spelled, fits) in cc

-- the words of five numbers are those of a walk exactly if the numbers are its own
pub five_said : {X : Type 0} (f : X → List ℕ) (words : List X) (d : X) (n0 n1 n2 n3 n4 : ℕ) (s0 s1 s2 s3 s4 : Option ℕ)
    → length words ≡ 5
    → s0 ≡ Some n0 → s1 ≡ Some n1 → s2 ≡ Some n2 → s3 ≡ Some n3 → s4 ≡ Some n4
    → Says s0 (f (get_or words 0 d)) → Says s1 (f (get_or words 1 d)) → Says s2 (f (get_or words 2 d)) → Says s3 (f (get_or words 3 d))
    → Says s4 (f (get_or words 4 d))
    → (walk : Walk) → (let one : Option Walk = Some record { nodes = n0; lines = n1; slots = n2; events = n3; seed = n4 } in one ≡ Some walk)
    ↔ ((map f words ≡ walk_words walk) × FitsWalk walk)
unfolding walk_words
five_said f words d n0 n1 n2 n3 n4 s0 s1 s2 s3 s4 long i0 i1 i2 i3 i4 e0 e1 e2 e3 e4 walk =
    let are = five f words d long in
    let h0 = (e0 n0).0 i0 in let h1 = (e1 n1).0 i1 in let h2 = (e2 n2).0 i2 in let h3 = (e3 n3).0 i3 in let h4 = (e4 n4).0 i4 in
    let there : Walk = record { nodes = n0; lines = n1; slots = n2; events = n3; seed = n4 } in
    let spelled : map f words ≡ walk_words there = rw are (rw (h0.0, h1.0, h2.0, h3.0, h4.0) refl) in
    let fit : FitsWalk there = record { nodes_fit = h0.1; lines_fit = h1.1; slots_fit = h2.1; events_fit = h3.1; seed_fits = h4.1 } in (
      λ same. subst (λ (w : Option Walk). IfSome w (λ x. (map f words ≡ walk_words x) × FitsWalk x)) same (spelled, fit),
      λ said.
          let whole = sym are ∙ said.0 in
          let a0 = agree s0 (f (get_or words 0 d)) n0 walk.nodes i0 e0 (ap (λ (l : List (List ℕ)). get_or l 0 []) whole) said.1.nodes_fit in
          let a1 = agree s1 (f (get_or words 1 d)) n1 walk.lines i1 e1 (ap (λ (l : List (List ℕ)). get_or l 1 []) whole) said.1.lines_fit in
          let a2 = agree s2 (f (get_or words 2 d)) n2 walk.slots i2 e2 (ap (λ (l : List (List ℕ)). get_or l 2 []) whole) said.1.slots_fit in
          let a3 = agree s3 (f (get_or words 3 d)) n3 walk.events i3 e3 (ap (λ (l : List (List ℕ)). get_or l 3 []) whole) said.1.events_fit in
          let a4 = agree s4 (f (get_or words 4 d)) n4 walk.seed i4 e4 (ap (λ (l : List (List ℕ)). get_or l 4 []) whole) said.1.seed_fits in
          rw (a0, a1, a2, a3, a4) refl,
    )
