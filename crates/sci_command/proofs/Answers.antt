-- Answers to a text that was read.
use Rattle.std.proofs.Common.{◌≡◌, ℕ, List, Bool, false, Option, Result, Ok, Err, refl}
use Rattle.std.specs.{Prelude.{IfErr}, Result.{IsErr}}
use Rattle.sci_text.specs.declared.fault.{TextFault.{TextFault}, TextFaultKind.{TextFaultKind}}
use Rattle.sci_text.specs.FirstFault.{AreRead, IsRefusal, IsTold}
use Rattle.sci_text.proofs.FirstFaults.{told_of_bytes}
use Rattle.sci_command.specs.declared.{answer.Answer.{Answer}, outcome.Outcome.{Outcome}, refusal.Refusal.{Refusal}}
use Rattle.sci_command.specs.declared.outcome.Outcome.TheVariants.{Done, Unlawful, Refused}
use Rattle.sci_core.specs.declared.dead.DeadEvents.{DeadEvents}
use Rattle.sci_command.specs.{Answer.{IsAnswerBy, IsAnswered, answer_in}, Input.{IsReadAs}}

answer_is : (is_made : List ℕ → List ℕ → Outcome → Type 0) (is_told : TextFaultKind → Option (List ℕ) → Bool → ℕ → Type 0)
    (known : Option (List ℕ)) (failed : Bool) (text : List ℕ) (outcome : Outcome)
    → (outcome ≡ Refused → ⊥) → IsReadAs known failed (λ bytes. is_made bytes text outcome) → IsAnswerBy is_made is_told known failed text outcome
answer_is is_made is_told known failed text Done other made = made
answer_is is_made is_told known failed text Unlawful other made = made
answer_is is_made is_told known failed text Refused other made = absurd (other refl)

-- one that is made isn't Refused
pub answer_made : (is_made : List ℕ → List ℕ → Outcome → Type 0) (is_told : TextFaultKind → Option (List ℕ) → Bool → ℕ → Type 0)
    (known : Option (List ℕ)) (failed : Bool) (text : List ℕ) (outcome : Outcome)
    → (outcome ≡ Refused → ⊥) → IsReadAs known failed (λ bytes. is_made bytes text outcome)
    → (outcome ≡ Refused → ⊥) × IsAnswerBy is_made is_told known failed text outcome
answer_made is_made is_told known failed text outcome other made = (other, answer_is is_made is_told known failed text outcome other made)

-- bytes that are refused
pub answer_refused : (is_answer : Option (List ℕ) → Bool → List ℕ → Outcome → Type 0) (is_first : List ℕ → ℕ → TextFaultKind → Type 0)
    (known : Option (List ℕ)) (failed : Bool) (bytes : List ℕ) (result : Result Answer Refusal) → failed ≡ false → AreRead known bytes → IsErr result
    → IfErr result (λ refusal. IsRefusal is_first bytes refusal.fault) → IsAnswered is_answer (IsTold is_first) known failed result
answer_refused is_answer is_first known failed bytes (Ok answer) unfailed read err refusal = absurd (cc)
answer_refused is_answer is_first known failed bytes (Err refusal) unfailed read err why =
    let result : Result Answer TextFault = Err refusal.fault in told_of_bytes is_first known failed bytes result unfailed read why

-- the same of a command that goes through the events of a schedule
pub replay_refused : (is_answer : Option (List ℕ) → Bool → List ℕ → Outcome → Type 0) (is_first : List ℕ → ℕ → TextFaultKind → Type 0)
    (known : Option (List ℕ)) (failed : Bool) (bytes : List ℕ) (result : Result (Answer × Option DeadEvents) Refusal) → failed ≡ false
    → AreRead known bytes → IsErr result → IfErr result (λ refusal. IsRefusal is_first bytes refusal.fault)
    → IsAnswered is_answer (IsTold is_first) known failed (answer_in result)
replay_refused is_answer is_first known failed bytes (Ok answer) unfailed read err refusal = absurd (cc)
replay_refused is_answer is_first known failed bytes (Err refusal) unfailed read err why =
    answer_refused is_answer is_first known failed bytes (Err refusal) unfailed read refl why
