-- Why nothing is shown of the script is why the command is refused, and what is shown is its answer.
use Rattle.std.proofs.Common.{◌≡◌, ℕ, Bool, true, false, List, Option, None, Some, refl, sym, subst, inl, inr, arith}
use Rattle.std.specs.Prelude.{IsSome}
use Rattle.sci_text.specs.{FirstFault.{AreRead, IsTold}, Script.{ScriptValue}, declared.fault.TextFaultKind.{TextFaultKind}}
use Rattle.sci_drive.specs.Rounds.{most_pending}
use Rattle.sci_command.specs.{Input.{IsReadAs}, declared.outcome.Outcome.TheVariants.{Done, Unlawful, Refused}}
use Rattle.sci_allowed.specs.Allowed.{IsTooBig, IsTooLong, kind_of}
use Rattle.sci_allowed.specs.AllowedAnswer.{IsAllowedAnswer, IsAllowedRefusal, IsAllowedText, IsTextOf, LacksNumber}
use Rattle.sci_allowed.specs.{Conditioned.{IsConditioned, IsConditionedFault}, Verdict.{IsVerdict, ending_of}}
use Rattle.sci_allowed.specs.declared.{allowed_report.AllowedRequest.{AllowedRequest}, condition.FinalCondition.{FinalCondition}}
use Rattle.sci_allowed.specs.declared.fault.AllowedFault.{AllowedFault}
use Rattle.sci_allowed.specs.declared.fault.AllowedFault.TheVariants as fault
use Rattle.sci_command.specs.declared.outcome.Outcome as ending

module _ (request : AllowedRequest) (script : ScriptValue) (last : Option FinalCondition) (known : Option (List ℕ)) (failed : Bool)
    (unfailed : failed ≡ false) (text : (input : List ℕ) × AreRead known input × IsConditioned script last input) where
  module _ (kind : TextFaultKind) (line : ℕ) (zero_is : line ≡ 0) where
    pub refused_for : (why : AllowedFault) → (why ≡ fault.TooMany → IsTooBig script (most_pending request.issuing))
        → (why ≡ fault.TooLong → IsSome request.show × IsTooLong script)
        → ((rows : ℕ) → why ≡ fault.NoRow rows → (number : ℕ) × (request.show ≡ Some number) × LacksNumber script (most_pending request.issuing) number)
        → kind ≡ kind_of why → IsAllowedRefusal request kind known failed line
    refused_for fault.Memory many long row is = inl (subst (λ (k : TextFaultKind). IsTold IsConditionedFault k known failed line) (sym is) (unfailed, zero_is))
    refused_for fault.TooMany many long row is =
        inr (inl (is, zero_is, (unfailed, (text.0, text.1, record { script = script; last = last; read = text.2; big = inl (many refl) }))))
    refused_for fault.TooLong many long row is =
        inr (inl (is, zero_is, (unfailed, (text.0, text.1, record { script = script; last = last; read = text.2; big = inr (long refl) }))))
    refused_for (fault.NoRow rows) many long row is =
        let found = row rows refl in
        inr (inr (
          is,
          zero_is,
          (
            unfailed,
            (
              text.0,
              text.1,
              record { script = script; last = last; read = text.2; number = found.0; asked = found.1; lacks = found.2 },
            ),
          ),
        ))

  verdict_ends : (l : Option FinalCondition) (verdict : List ℕ) (ends : ending.Outcome) → IsVerdict script (most_pending request.issuing) l verdict ends
      → (b : Bool) × (ends ≡ ending_of b)
  verdict_ends None verdict ends is = (true, is.1)
  verdict_ends (Some said) verdict ends is = (is.0, is.2)

  shown_ends : (show : Option ℕ) (out : List ℕ) (ends : ending.Outcome) → IsTextOf script (most_pending request.issuing) show last out ends
      → (b : Bool) × (ends ≡ ending_of b)
  shown_ends None out ends is = verdict_ends last is.verdict ends is.is_verdict
  shown_ends (Some number) out ends is = (true, is.1)

  answered : (out : List ℕ) (ends : ending.Outcome) (b : Bool) → ends ≡ ending_of b → IsReadAs known failed (λ bytes. IsAllowedText request bytes out ends)
      → (ends ≡ Refused → ⊥) × IsAllowedAnswer request known failed out ends
  answered out ends true is read =
      let shown : IsReadAs known failed (λ bytes. IsAllowedText request bytes out Done) =
      subst (λ (e : ending.Outcome). IsReadAs known failed (λ bytes. IsAllowedText request bytes out e)) is read in
      subst (λ (e : ending.Outcome). (e ≡ Refused → ⊥) × IsAllowedAnswer request known failed out e) (sym is) ((λ e. cc), shown)
  answered out ends false is read =
      let shown : IsReadAs known failed (λ bytes. IsAllowedText request bytes out Unlawful) =
      subst (λ (e : ending.Outcome). IsReadAs known failed (λ bytes. IsAllowedText request bytes out e)) is read in
      subst (λ (e : ending.Outcome). (e ≡ Refused → ⊥) × IsAllowedAnswer request known failed out e) (sym is) ((λ e. cc), shown)

  pub answered_for : (out : List ℕ) (ends : ending.Outcome) → IsTextOf script (most_pending request.issuing) request.show last out ends
      → (ends ≡ Refused → ⊥) × IsAllowedAnswer request known failed out ends
  answered_for out ends is = grind (arith, shown_ends, answered)
