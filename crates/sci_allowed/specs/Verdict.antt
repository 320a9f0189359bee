-- Whether the outcomes of a script are as its condition says.
use Rattle.std.specs.Prelude.{◌≡◌, ◌↔◌, ℕ, not, Bool, true, false, List, [], ◌∷◌, ◌++◌, codes, Option, None, Some}
use Rattle.std.specs.List.{list_all, list_any}
use Rattle.sci_text.specs.Script.{ScriptValue}
use Rattle.sci_allowed.specs.{Allowed.{IsAllowed}, Condition.{satisfies}, Outcome.{Shown, shown_of}}
use Rattle.sci_allowed.specs.declared.condition.{Condition.{Condition}, FinalCondition.{FinalCondition}}
use Rattle.sci_allowed.specs.declared.condition.Quantifier.{Quantifier, TheVariants.{Exists, Forall, Never}}
use Rattle.sci_allowed.specs.declared.rows.AllowedRow.{AllowedRow}
use Rattle.sci_command.specs.declared.outcome.Outcome as ending
use Rattle.sci_command.specs.declared.outcome.Outcome.TheVariants.{Done, Unlawful}

-- what is seen of a run satisfies a condition
abbrev pub Satisfies : Condition → Shown → Type 0
Satisfies condition shown = satisfies condition shown ≡ true

-- some run of the script satisfies the condition, or each does, or none
abbrev pub IsTrueOf : ScriptValue → (window : ℕ) → Quantifier → Condition → Type 0
IsTrueOf script window Exists condition = (shown : Shown) × IsAllowed script window shown × Satisfies condition shown
IsTrueOf script window Forall condition = (shown : Shown) → IsAllowed script window shown → Satisfies condition shown
IsTrueOf script window Never condition = (shown : Shown) → IsAllowed script window shown → Satisfies condition shown → ⊥

-- `Yes` or `No`, and the line feed
abbrev pub verdict_text : Bool → List ℕ
verdict_text true = codes "Yes" ++ 10 ∷ []
verdict_text false = codes "No" ++ 10 ∷ []

abbrev pub ending_of : Bool → ending.Outcome
ending_of true = Done
ending_of false = Unlawful

-- the verdict on the condition of a script, if it has one, and how the command ends then
abbrev pub IsVerdict : ScriptValue → (window : ℕ) → Option FinalCondition → List ℕ → ending.Outcome → Type 0
IsVerdict script window None text ends = (text ≡ []) × (ends ≡ Done)
IsVerdict script window (Some said) text ends = (is_true : Bool) × (text ≡ verdict_text is_true) × (ends ≡ ending_of is_true)
    × ((is_true ≡ true) ↔ IsTrueOf script window said.quantifier said.condition)

-- ---- of rows

abbrev pub some_satisfies : Condition → List AllowedRow → Bool
some_satisfies condition rows = list_any (λ row. satisfies condition (shown_of row.outcome)) rows

abbrev pub each_satisfies : Condition → List AllowedRow → Bool
each_satisfies condition rows = list_all (λ row. satisfies condition (shown_of row.outcome)) rows

-- whether a condition is true of the outcomes of these rows
abbrev pub is_true_of : Quantifier → Condition → List AllowedRow → Bool
is_true_of Exists condition rows = some_satisfies condition rows
is_true_of Forall condition rows = each_satisfies condition rows
is_true_of Never condition rows = not (some_satisfies condition rows)

-- the verdict on the outcomes of these rows is added to a text, and the command ends so
abbrev pub AddsVerdict : Option FinalCondition → List AllowedRow → (old new : List ℕ) → ending.Outcome → Type 0
AddsVerdict None rows old new ends = (new ≡ old) × (ends ≡ Done)
AddsVerdict (Some said) rows old new ends =
    let is_true = is_true_of said.quantifier said.condition rows in
    (new ≡ old ++ verdict_text is_true) × (ends ≡ ending_of is_true)
