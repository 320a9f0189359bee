-- What is said of a script's condition.
use Rattle.std.specs.Prelude.{◌≡◌, ◌↔◌, ℕ, Bool, true, false, List, [], ◌∷◌, ◌++◌, codes, Option, None, Some, if◌then◌else◌}
use Rattle.std.specs.List.{list_all, list_any}
use Rattle.sci_text.specs.Script.{ScriptValue}
use Rattle.sci_allowed.specs.{Condition.{satisfies}, Outcome.{shown_of}, Verdict.{IsTrueOf, is_true_of}}
use Rattle.sci_allowed.specs.declared.condition.{Condition.{Condition}, FinalCondition.{FinalCondition}}
use Rattle.sci_allowed.specs.declared.condition.Quantifier.{Quantifier, TheVariants.{Exists, Forall, Never}}
use Rattle.sci_allowed.specs.declared.rows.AllowedRow.{AllowedRow}
use Rattle.sci_command.specs.declared.outcome.Outcome.{Outcome, TheVariants.{Done, Unlawful}}
use Rattle.sci_outcomes.specs.declared.{histogram.Row.{Row}, said.Said.{Said, TheVariants.{Yes, No, NoExample, NoCounterexample}}}

-- whether the outcome of some row satisfies a condition
abbrev pub some_satisfies : Condition → List Row → Bool
some_satisfies condition rows = list_any (λ row. satisfies condition (shown_of row.outcome)) rows

-- whether that of each row does
abbrev pub each_satisfies : Condition → List Row → Bool
each_satisfies condition rows = list_all (λ row. satisfies condition (shown_of row.outcome)) rows

-- An example settles `exists`, and a counterexample `forall` and `never`. Without one, runs that weren't seen may have it.
abbrev pub sample_of : Quantifier → Condition → List Row → Said
sample_of Exists condition rows = if some_satisfies condition rows then Yes else NoExample
sample_of Forall condition rows = if each_satisfies condition rows then NoCounterexample else No
sample_of Never condition rows = if some_satisfies condition rows then No else NoCounterexample

-- what the rows of a sample say of the condition of a script, if it has one
abbrev pub said_of : Option FinalCondition → List Row → Option Said
said_of None rows = None
said_of (Some said) rows = Some (sample_of said.quantifier said.condition rows)

abbrev pub said_by : Bool → Said
said_by true = Yes
said_by false = No

-- what all outcomes of a script say of its condition, if it has one
abbrev pub said_of_all : Option FinalCondition → List AllowedRow → Option Said
said_of_all None rows = None
said_of_all (Some said) rows = Some (said_by (is_true_of said.quantifier said.condition rows))

-- the same of all runs of the script
abbrev pub IsSaidOf : ScriptValue → (window : ℕ) → Option FinalCondition → Option Said → Type 0
IsSaidOf script window None answer = answer ≡ None
IsSaidOf script window (Some said) answer =
    (is_true : Bool) × (answer ≡ Some (said_by is_true)) × ((is_true ≡ true) ↔ IsTrueOf script window said.quantifier said.condition)

-- ---- how it is written, and how the command ends

abbrev pub sample_word : Said → List ℕ
sample_word Yes = codes "Yes"
sample_word No = codes "No"
sample_word NoExample = codes "Not seen"
sample_word NoCounterexample = codes "Not seen"

unfoldable pub said_text : Option Said → List ℕ
said_text None = []
said_text (Some said) = sample_word said ++ 10 ∷ []

abbrev pub sample_ending : Said → Outcome
sample_ending Yes = Done
sample_ending No = Unlawful
sample_ending NoExample = Unlawful
sample_ending NoCounterexample = Done

abbrev pub said_ending : Option Said → Outcome
said_ending None = Done
said_ending (Some said) = sample_ending said
