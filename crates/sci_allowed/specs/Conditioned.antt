-- The text of a script that may end in a condition, and its faults.
use Rattle.std.specs.Prelude.{◌≡◌, ◌≢◌, ◌⊎◌, ℕ, ◌<◌, ◌≤◌, ◌+◌, ◌-◌, List, [], ◌∷◌, ◌++◌, codes, drop, length, Option, None, Some, slice_index, take}
use Rattle.sci_text.specs.{declared.fault.{TextFault.{TextFault}, TextFaultKind.{TextFaultKind, TheVariants.{Memory, Range, Syntax}}}}
use Rattle.sci_text.specs.{Script.{IsScript, ScriptValue, script_text}, ScriptFault.{IsScriptFault}}
use Rattle.sci_allowed.specs.Condition.{AreTermsOf, IsGrouped, condition_text, quantifier_word}
use Rattle.sci_allowed.specs.declared.condition.{FinalCondition.{FinalCondition}, Quantifier.{Quantifier}}

-- the quantifier, a space, the condition, and the line feed
abbrev pub final_text : FinalCondition → List ℕ
final_text said = quantifier_word said.quantifier ++ (codes " " ++ (condition_text said.condition ++ 10 ∷ []))

-- The line says a condition of the script: `not` binds strongest in it, then `and`, then `or`, and the script has what it
-- names. Or there is no line.
abbrev pub IsSaidAs : ScriptValue → Option FinalCondition → List ℕ → Type 0
IsSaidAs script None line = line ≡ []
IsSaidAs script (Some said) line = (line ≡ final_text said) × IsGrouped said.condition × AreTermsOf script said.condition

-- the input is the text of a script, and a line for its condition, if it has one
pub record IsConditioned (script : ScriptValue) (last : Option FinalCondition) (input : List ℕ) : Type 0 where
  pub good : IsScript script
  pub line : List ℕ
  pub parts : input ≡ script_text script ++ line
  pub said : IsSaidAs script last line

-- ---- faults

-- the last line of bytes begins here
pub record IsLastLineAt (bytes : List ℕ) (at : ℕ) : Type 0 where
  pub within : 0 < length bytes → at < length bytes
  pub few : at ≤ length bytes
  pub before : 0 < at → slice_index bytes (at - 1) ≡ 10
  pub inside : (k : ℕ) → at ≤ k → k + 1 < length bytes → slice_index bytes k ≢ 10

-- bytes begin with the word of a quantifier
abbrev pub IsQuantified : List ℕ → Type 0
IsQuantified bytes = (quantifier : Quantifier) × (rest : List ℕ) × (bytes ≡ quantifier_word quantifier ++ rest)

-- this many bytes stand in front of the last line, if that begins with a quantifier; else all
abbrev pub IsFrontLength : List ℕ → ℕ → Type 0
IsFrontLength bytes n = (IsLastLineAt bytes n × IsQuantified (drop n bytes))
    ⊎ ((n ≡ length bytes) × ((at : ℕ) → IsLastLineAt bytes at → IsQuantified (drop at bytes) → ⊥))

-- what stands in front of a condition has a fault, as a script
pub record IsFrontFault (bytes : List ℕ) (line : ℕ) (kind : TextFaultKind) : Type 0 where
  pub front : ℕ
  pub is_front : IsFrontLength bytes front
  pub fault : IsScriptFault (take front bytes) line kind

-- the line of a condition has a fault, and what stands in front of it is the text of a script
pub record IsConditionFault (bytes : List ℕ) (line : ℕ) (kind : TextFaultKind) : Type 0 where
  pub script : ScriptValue
  pub good : IsScript script
  pub front : ℕ
  pub last : IsLastLineAt bytes front
  pub quantified : IsQuantified (drop front bytes)
  pub read : take front bytes ≡ script_text script
  pub place : line ≡ length script.operations + 2
  pub kinds : (kind ≡ Syntax) ⊎ (kind ≡ Range)

-- the first line that has a fault, and the fault
abbrev pub IsConditionedFault : List ℕ → ℕ → TextFaultKind → Type 0
IsConditionedFault bytes line kind = IsFrontFault bytes line kind ⊎ IsConditionFault bytes line kind

-- ---- inside

-- why no condition of the script is read: its line has a fault, or memory was refused
abbrev pub IsLineRefusal : ScriptValue → TextFault → Type 0
IsLineRefusal script fault = ((fault.line ≡ 0) × (fault.kind ≡ Memory))
    ⊎ ((fault.line ≡ length script.operations + 2) × ((fault.kind ≡ Syntax) ⊎ (fault.kind ≡ Range)))
