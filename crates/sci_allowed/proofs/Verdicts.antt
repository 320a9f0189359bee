-- What is true of all outcomes of a script is true of its runs.
use Rattle.std.proofs.Common.{◌≡◌, ◌↔◌, ℕ, Bool, true, false, List, [], ◌∷◌, ◌++◌, map, Option, None, Some, refl, sym, ap, ◌∙◌, arith}
use Rattle.std.proofs.lemmas.List.{append-nil, Elements.{All-contains}, Folds.{Any-from_list_any, list_any-from_Any}}
use Rattle.std.specs.{List.{list_all, list_any}, Prelude.{not, ◌&&◌, ◌||◌}}
use Rattle.sci_text.specs.Script.{ScriptValue}
use Rattle.sci_allowed.specs.Allowed.{AreRows, IsAllowed}
use Rattle.sci_allowed.specs.{Condition.{satisfies}, Outcome.{Shown, shown_of}}
use Rattle.sci_allowed.specs.Verdict.{AddsVerdict, IsTrueOf, IsVerdict, is_true_of}
use Rattle.sci_allowed.specs.declared.condition.{Condition.{Condition}, FinalCondition.{FinalCondition}}
use Rattle.sci_allowed.specs.declared.condition.Quantifier.{Quantifier, TheVariants.{Exists, Forall, Never}}
use Rattle.sci_allowed.specs.declared.{outcome.Outcome.{Outcome}, rows.AllowedRow.{AllowedRow}}
use Rattle.sci_command.specs.declared.outcome.Outcome as ending

-- each passes if none fails
none_fails : {X : Type 0} (p : X → Bool) (xs : List X) → list_all p xs ≡ not (list_any (λ x. not (p x)) xs)
none_fails p [] = refl
none_fails p (x ∷ xs) = elim (p x) as (λ b. (b && list_all p xs) ≡ not (not b || list_any (λ y. not (p y)) xs)) [
  | true ↦ none_fails p xs
  | false ↦ refl
]

-- a test of what a function gives
over_map : {X Y : Type 0} (f : X → Y) (p : Y → Bool) (xs : List X) → list_any p (map f xs) ≡ list_any (λ x. p (f x)) xs
over_map f p [] = refl
over_map f p (x ∷ xs) = ap (λ (b : Bool). p (f x) || b) (over_map f p xs)

abbrev outcome_of : AllowedRow → Outcome
outcome_of row = row.outcome

module _ (script : ScriptValue) (window : ℕ) (rows : List AllowedRow) (all : AreRows script window rows) (p : Shown → Bool) where
  -- what passes among the outcomes passes of a run
  some_run : list_any (λ row. p (shown_of row.outcome)) rows ≡ true → (shown : Shown) × IsAllowed script window shown × (p shown ≡ true)
  some_run found =
      let outcomes = map outcome_of rows in
      let any = Any-from_list_any (λ o. p (shown_of o)) outcomes (over_map outcome_of (λ o. p (shown_of o)) rows ∙ found) in
      (shown_of any.1, All-contains (λ o. IsAllowed script window (shown_of o)) outcomes any.1 all.outcomes.each (any.0, any.2, any.3), any.4)

  -- and the other way round
  some_outcome : (shown : Shown) → IsAllowed script window shown → p shown ≡ true → list_any (λ row. p (shown_of row.outcome)) rows ≡ true
  some_outcome shown allowed is =
      let any = all.outcomes.all shown allowed in
      sym (over_map outcome_of (λ o. p (shown_of o)) rows)
      ∙ list_any-from_Any (λ o. p (shown_of o)) (map outcome_of rows) (any.0, any.1, any.2, any.3, ap p any.4 ∙ is)

turned : (b : Bool) → not b ≡ true → b ≡ true → ⊥
turned true is other = cc
turned false is other = cc

falls : (b : Bool) → (b ≡ true → ⊥) → not b ≡ true
falls true isnt = absurd (isnt refl)
falls false isnt = refl

stays : (b : Bool) → (not b ≡ true → ⊥) → b ≡ true
stays true isnt = refl
stays false isnt = absurd (isnt refl)

pub true_of : (script : ScriptValue) (window : ℕ) (rows : List AllowedRow) → AreRows script window rows → (q : Quantifier) (condition : Condition)
    → (is_true_of q condition rows ≡ true) ↔ IsTrueOf script window q condition
true_of script window rows all Exists condition = (
  some_run script window rows all (satisfies condition),
  λ run. some_outcome script window rows all (satisfies condition) run.0 run.1 run.2,
)
true_of script window rows all Forall condition =
    let fails = λ (shown : Shown). not (satisfies condition shown) in
    let same = none_fails (λ (row : AllowedRow). satisfies condition (shown_of row.outcome)) rows in (
      (λ is shown allowed. stays (satisfies condition shown) (λ failed.
          turned (list_any (λ row. fails (shown_of row.outcome)) rows) (sym same ∙ is) (some_outcome script window rows all fails shown allowed failed))),
      (λ each. same ∙ falls (list_any (λ row. fails (shown_of row.outcome)) rows) (λ found. (
          let run = some_run script window rows all fails found in
          turned (satisfies condition run.0) run.2 (each run.0 run.1)))),
    )
true_of script window rows all Never condition =
    let some = list_any (λ row. satisfies condition (shown_of row.outcome)) rows in (
      (λ is shown allowed so. turned some is (some_outcome script window rows all (satisfies condition) shown allowed so)),
      (λ none. falls some (λ found. (
          let run = some_run script window rows all (satisfies condition) found in none run.0 run.1 run.2))),
    )

-- a verdict on all outcomes is one on the script
pub verdict_is : (script : ScriptValue) (window : ℕ) (rows : List AllowedRow) → AreRows script window rows → (last : Option FinalCondition)
    (old new : List ℕ) (ends : ending.Outcome) → AddsVerdict last rows old new ends
    → (text : List ℕ) × (new ≡ old ++ text) × IsVerdict script window last text ends
verdict_is script window rows all None old new ends (same, is) = ([], same ∙ sym (append-nil old), (refl, is))
verdict_is script window rows all (Some said) old new ends (added, is) = grind (arith, true_of)
