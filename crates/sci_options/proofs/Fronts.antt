-- A setting in front of words, parted or joined by `=`.
use Rattle.std.proofs.Common.{◌≡◌, ◌↔◌, ◌<◌, ◌≢◌, ℕ, zero, suc, arith, eqb, length, get_or, List, [], ◌∷◌, ◌++◌, Option}
use Rattle.std.proofs.Common.{Some, None, sym, ap, subst, ◌∙◌, refl, inl, inr}
use Rattle.std.specs.Prelude.{Bool, true, false}
use Rattle.std.proofs.Common.{cond}
use Rattle.std.proofs.lemmas.{Bool.{eq-eqb}, Str.Pattern.{IsSplitOnceResult, split_after, split_parts}}
use denote.Ref.{Bor}
use Rattle.sci_options.specs.declared.option_name.OptionName.{OptionName, TheVariants.{BySerial}}
use Rattle.sci_options.specs.declared.setting.{OptionRow.{OptionRow}, Setting.{Setting}}
use Rattle.sci_options.proofs.Steps.{count_in, setting_in}
use Rattle.sci_options.specs.Options.{Begins, IsJoined, IsParted, option_word}

-- no option has a `=` in its word
abbrev lacks : List ℕ → Bool
lacks [] = true
lacks (b ∷ bytes) = cond (eqb b 61) false (lacks bytes)

names_lack : (name : OptionName) → lacks (option_word name) ≡ true
names_lack BySerial = refl
names_lack name = refl

both_lack : (here rest : Bool) → cond here false rest ≡ true → (here ≡ false) × (rest ≡ true)
both_lack false rest is = (refl, is)
both_lack true rest is = absurd (cc)

none_at : (bytes : List ℕ) → lacks bytes ≡ true → (i : ℕ) → i < length bytes → get_or bytes i 0 ≢ 61
none_at [] is i below = absurd (omega arith)
none_at (b ∷ bytes) is zero below = λ same.
    let here = (both_lack (eqb b 61) (lacks bytes) is).0 in let there : eqb b 61 ≡ true = eq-eqb b 61 same in absurd (cc)
none_at (b ∷ bytes) is (suc i) below = none_at bytes (both_lack (eqb b 61) (lacks bytes) is).1 i (omega arith)

name_lacks : (name : OptionName) (i : ℕ) → i < length (option_word name) → get_or (option_word name) i 0 ≢ 61
name_lacks name = none_at (option_word name) (names_lack name)

lacks_front : (front text : List ℕ) → lacks (front ++ (61 ∷ text)) ≡ true → ⊥
lacks_front [] text is = absurd (cc)
lacks_front (b ∷ front) text is = lacks_front front text (both_lack (eqb b 61) (lacks (front ++ (61 ∷ text))) is).1

module _ (options : List OptionRow) (word : List ℕ) (more : List (List ℕ)) where
  -- a word with a `=` begins a setting that is joined by it
  pub begins_joined : (name text : Bor (List ℕ)) → IsSplitOnceResult 61 word (Some (name, text)) → (setting : Setting) (count : ℕ)
      → Begins options word more setting count ↔ (IsJoined options name.now text.now setting × (count ≡ 0))
  begins_joined name text split setting count =
      let low : 61 < 128 = omega arith in
      let parts = split_parts 61 word (Some (name, text)) split low in (
        λ begins. elim begins [
          | inl (argument, taken, is, follows) ↦
              let whole : lacks (name.now ++ (61 ∷ text.now)) ≡ true = ap lacks (sym parts.0 ∙ is) ∙ names_lack setting.name in
              absurd (lacks_front name.now text.now whole)
          | inr (front, rest, is, joined, none) ↦
              let bare : (i : ℕ) → i < length front → get_or front i 0 ≢ 61 =
              subst (λ (w : List ℕ). (i : ℕ) → i < length w → get_or w i 0 ≢ 61) (sym joined.2) (name_lacks setting.name) in
              let same = split_after 61 word front rest (Some (name, text)) split low is bare in (
                subst (λ (t : List ℕ). IsJoined options name.now t setting) (sym same.1)
                    (subst (λ (w : List ℕ). IsJoined options w rest setting) (sym same.0) joined),
                none,
              )
        ],
        λ joined. inr (name.now, text.now, parts.0, joined.0, joined.1),
      )

  -- a word without begins one that is parted
  pub begins_parted : IsSplitOnceResult 61 word None → (setting : Setting) (count : ℕ)
      → Begins options word more setting count ↔ IsParted options word more setting count
  begins_parted split setting count = (
    λ begins. elim begins [
      | inl parted ↦ parted
      | inr (front, rest, is, joined, none) ↦
          let low : 61 < 128 = omega arith in
          let bare : (i : ℕ) → i < length front → get_or front i 0 ≢ 61 =
          subst (λ (w : List ℕ). (i : ℕ) → i < length w → get_or w i 0 ≢ 61) (sym joined.2) (name_lacks setting.name) in
          absurd (split_after 61 word front rest None split low is bare)
    ],
    λ parted. inl parted,
  )

module _ (options : List OptionRow) (word : List ℕ) (more : List (List ℕ)) (name text : Bor (List ℕ)) (split : IsSplitOnceResult 61 word (Some (name, text)))
    (joined : Option Setting) (joins : (setting : Setting) → (joined ≡ Some setting) ↔ IsJoined options name.now text.now setting) where
  pub some_joined : (there : Setting) → joined ≡ Some there → (setting : Setting) (count : ℕ)
      → (let one : Option (Setting × ℕ) = Some (there, 0) in one ≡ Some (setting, count)) ↔ Begins options word more setting count
  some_joined there is setting count = (
    λ same.
        let here : there ≡ setting = ap (setting_in there) same in
        let none : 0 ≡ count = ap count_in same in
        (begins_joined options word more name text split setting count).1 ((joins setting).0 (is ∙ ap (λ (s : Setting). Some s) here), sym none),
    λ begins.
        let found = (begins_joined options word more name text split setting count).0 begins in
        let at : joined ≡ Some setting = (joins setting).1 found.0 in
        let here : setting ≡ there = cc in
        let first : Some (there, 0) ≡ Some (setting, 0) = ap (λ (s : Setting). Some (s, 0)) (sym here) in
        first ∙ ap (λ (n : ℕ). Some (setting, n)) (sym found.1),
  )

  pub none_joined : (result : Option (Setting × ℕ)) → joined ≡ None → result ≡ None → (setting : Setting) (count : ℕ)
      → (result ≡ Some (setting, count)) ↔ Begins options word more setting count
  none_joined result is none setting count = (
    λ same. absurd (cc),
    λ begins.
        let found = (begins_joined options word more name text split setting count).0 begins in
        let at : joined ≡ Some setting = (joins setting).1 found.0 in
        absurd (cc),
  )

-- what is parted is all that begins a word without `=`
pub parted_alone : (options : List OptionRow) (word : List ℕ) (more : List (List ℕ)) (read : Option (Setting × ℕ)) → IsSplitOnceResult 61 word None
    → ((setting : Setting) (count : ℕ) → (read ≡ Some (setting, count)) ↔ IsParted options word more setting count) → (setting : Setting) (count : ℕ)
    → (read ≡ Some (setting, count)) ↔ Begins options word more setting count
parted_alone options word more read split reads setting count =
    let same = begins_parted options word more split setting count in
    (λ is. same.1 ((reads setting count).0 is), λ begins. (reads setting count).1 (same.0 begins))
