-- How a run ends.
use Rattle.std.proofs.Common.{◌≡◌, ℕ, List, Bool, true, false, Option, refl, sym, subst}
use Rattle.sci_command.specs.{declared.outcome.Outcome.{Outcome, TheVariants.{Done, Unlawful, Refused}}, Input.{IsReadAs}}
use Rattle.sci_outcomes.specs.{RunAnswer.{IsRunAnswer, IsRunText}, declared.run_report.RunRequest.{RunRequest}}

-- how a run ends tells whether it is done
pub run_answer : (request : RunRequest) (known : Option (List ℕ)) (failed : Bool) (text : List ℕ) (outcome : Outcome) (done : Bool)
    → (done ≡ true → outcome ≡ Done) → (done ≡ false → outcome ≡ Unlawful) → IsReadAs known failed (λ bytes. IsRunText request done bytes text)
    → (outcome ≡ Refused → ⊥) × IsRunAnswer request known failed text outcome
run_answer request known failed text outcome true ended left read =
    subst (λ (o : Outcome). (o ≡ Refused → ⊥) × IsRunAnswer request known failed text o) (sym (ended refl)) ((λ e. cc), read)
run_answer request known failed text outcome false ended left read =
    subst (λ (o : Outcome). (o ≡ Refused → ⊥) × IsRunAnswer request known failed text o) (sym (left refl)) ((λ e. cc), read)
