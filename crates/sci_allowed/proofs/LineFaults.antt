-- What stands in front of a condition, and the condition, are the text that was read.
use Rattle.std.proofs.Common.{◌≡◌, ℕ, List, Option, take, drop, sym, subst, inl, arith}
use Rattle.std.proofs.lemmas.List.{take-append-drop}
use Rattle.sci_text.specs.declared.fault.{TextFault.{TextFault}, TextFaultKind.{TextFaultKind, TheVariants.{Syntax, Range, TooMany, Read, Write, Memory}}}
use Rattle.sci_text.specs.{FirstFault.{IsRefusal, IsRefusalOf}, Script.{IsScript, ScriptValue, script_text}, ScriptFault.{IsScriptFault}}
use Rattle.sci_allowed.specs.declared.condition.FinalCondition.{FinalCondition}
use Rattle.sci_allowed.specs.Conditioned.{IsConditioned, IsConditionedFault, IsFrontLength, IsSaidAs}

module _ (bytes : List ℕ) (n : ℕ) (front : IsFrontLength bytes n) where
  front_refused : (kind : TextFaultKind) (line : ℕ) → IsRefusalOf IsScriptFault kind (take n bytes) line → IsRefusalOf IsConditionedFault kind bytes line
  front_refused Syntax line why = inl (record { front = n; is_front = front; fault = why })
  front_refused Range line why = inl (record { front = n; is_front = front; fault = why })
  front_refused TooMany line why = inl (record { front = n; is_front = front; fault = why })
  front_refused Read line why = why
  front_refused Write line why = why
  front_refused Memory line why = why

  pub front_refusal : (fault other : TextFault) → other ≡ fault → IsRefusal IsScriptFault (take n bytes) fault → IsRefusal IsConditionedFault bytes other
  front_refusal fault other is why = subst (IsRefusal IsConditionedFault bytes) (sym is) (front_refused fault.kind fault.line why)

-- the parts of a text are a script and the line of its condition
pub conditioned_is : (bytes : List ℕ) (n : ℕ) (front line : List ℕ) (script same : ScriptValue) (last : Option FinalCondition) → front ≡ take n bytes
    → line ≡ drop n bytes → front ≡ script_text script → IsScript script → same ≡ script → IsSaidAs same last line → IsConditioned same last bytes
conditioned_is bytes n front line script same last front_is line_is read good is said = grind (arith, take-append-drop)
