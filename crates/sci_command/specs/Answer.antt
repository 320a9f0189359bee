-- A command's answer, and what is written of it.
use Rattle.std.specs.Prelude.{◌≡◌, ℕ, Bool, List, [], Option, None, Some, Result, Ok, Err}
use Rattle.sci_core.specs.declared.dead.DeadEvents.{DeadEvents}
use Rattle.sci_text.specs.declared.{fault.TextFaultKind.{TextFaultKind}, tap.Tap.{Tap}}
use Rattle.sci_text.specs.Tap.{has_failed, is_called_again, tapped}
use Rattle.sci_command.specs.declared.{answer.Answer.{Answer}, outcome.Outcome.{Outcome}, refusal.Refusal.{Refusal}}
use Rattle.sci_command.specs.{declared.outcome.Outcome.TheVariants.{Done, Unlawful, Refused}, Input.{IsReadAs}}
use Rattle.sci_command.specs.Refusal.{IsRefusalBy, line_refusal}

-- the text of the answer is written, and the command ends as it says; or the line that refuses the input
abbrev pub IsWrittenOf : Result Answer Refusal → List ℕ → Outcome → Type 0
IsWrittenOf (Ok answer) text outcome = (text ≡ answer.text.items) × (outcome ≡ answer.outcome)
IsWrittenOf (Err refusal) text outcome = (text ≡ line_refusal refusal.fault.line refusal.fault.kind) × (outcome ≡ Refused)

-- the same of a command that writes nothing if its input is refused
abbrev pub IsShownOf : Result Answer Refusal → List ℕ → Outcome → Type 0
IsShownOf (Ok answer) text outcome = (text ≡ answer.text.items) × (outcome ≡ answer.outcome)
IsShownOf (Err refusal) text outcome = (text ≡ []) × (outcome ≡ Refused)

-- why the input is refused, if it is
abbrev pub refusal_of : Result Answer Refusal → Option Refusal
refusal_of (Ok answer) = None
refusal_of (Err refusal) = Some refusal

-- the answer of a command that goes through the events of a schedule
abbrev pub answer_in : Result (Answer × Option DeadEvents) Refusal → Result Answer Refusal
answer_in (Ok answered) = Ok answered.0
answer_in (Err refusal) = Err refusal

-- the events that weren't enabled then
abbrev pub dead_in : Result (Answer × Option DeadEvents) Refusal → Option DeadEvents
dead_in (Ok answered) = answered.1
dead_in (Err refusal) = None

-- What a command writes for the text that a reader gives, and how it ends: what is made of the bytes that were read, or the
-- refusal of a fault that is reported.
abbrev pub IsAnswerBy : (List ℕ → List ℕ → Outcome → Type 0) → (TextFaultKind → Option (List ℕ) → Bool → ℕ → Type 0) → Option (List ℕ) → Bool → List ℕ
    → Outcome → Type 0
IsAnswerBy is_made is_told known failed text Done = IsReadAs known failed (λ bytes. is_made bytes text Done)
IsAnswerBy is_made is_told known failed text Unlawful = IsReadAs known failed (λ bytes. is_made bytes text Unlawful)
IsAnswerBy is_made is_told known failed text Refused = IsRefusalBy (λ kind line. is_told kind known failed line) text

-- the same of a command that ends Done whatever the text says
abbrev pub IsDoneBy : (List ℕ → List ℕ → Type 0) → (TextFaultKind → Option (List ℕ) → Bool → ℕ → Type 0) → Option (List ℕ) → Bool → List ℕ → Outcome
    → Type 0
IsDoneBy is_made is_told known failed text Done = IsReadAs known failed (λ bytes. is_made bytes text)
IsDoneBy is_made is_told known failed text Unlawful = ⊥
IsDoneBy is_made is_told known failed text Refused = IsRefusalBy (λ kind line. is_told kind known failed line) text

-- what a command gives for the bytes of a reader, which has failed or not: an answer to them, or a fault of them
abbrev pub IsAnswered : (Option (List ℕ) → Bool → List ℕ → Outcome → Type 0) → (TextFaultKind → Option (List ℕ) → Bool → ℕ → Type 0) → Option (List ℕ) → Bool
    → Result Answer Refusal → Type 0
IsAnswered is_answer is_told known failed (Ok answer) = (answer.outcome ≡ Refused → ⊥) × is_answer known failed answer.text.items answer.outcome
IsAnswered is_answer is_told known failed (Err refusal) = is_told refusal.fault.kind known failed refusal.fault.line

-- a command has answered what its reader had, and has read nothing more after a read that failed; `read` is the reader after it
abbrev pub HasAnswered : {R : Type 0} → (R → Option (List ℕ)) → Tap R → Tap R → (Option (List ℕ) → Bool → List ℕ → Outcome → Type 0)
    → (TextFaultKind → Option (List ℕ) → Bool → ℕ → Type 0) → Result Answer Refusal → Type 0
HasAnswered remaining reader read is_answer is_told result =
    IsAnswered is_answer is_told (remaining (tapped reader)) (has_failed read) result × (is_called_again read ≡ is_called_again reader)

-- the refusal's fault is one that the input is refused for
abbrev pub IsRefusedFor : (Option (List ℕ) → Bool → List ℕ → Outcome → Type 0) → Refusal → Option (List ℕ) → Bool → Type 0
IsRefusedFor is_answer refusal known failed = is_answer known failed (line_refusal refusal.fault.line refusal.fault.kind) Refused

-- a command writes its answer to an input, or the line that refuses it, which the refusal tells more of
abbrev pub IsAnswerBeside : (Option (List ℕ) → Bool → List ℕ → Outcome → Type 0) → Option Refusal → Option (List ℕ) → Bool → List ℕ → Outcome → Type 0
IsAnswerBeside is_answer None known failed text outcome = (outcome ≡ Refused → ⊥) × is_answer known failed text outcome
IsAnswerBeside is_answer (Some refusal) known failed text outcome =
    is_answer known failed text outcome × (outcome ≡ Refused) × IsRefusedFor is_answer refusal known failed

-- a command writes its answer to an input, or nothing if the input is refused
abbrev pub IsAnswerAlone : (Option (List ℕ) → Bool → List ℕ → Outcome → Type 0) → Option Refusal → Option (List ℕ) → Bool → List ℕ → Outcome → Type 0
IsAnswerAlone is_answer None known failed text outcome = (outcome ≡ Refused → ⊥) × is_answer known failed text outcome
IsAnswerAlone is_answer (Some refusal) known failed text outcome =
    (text ≡ []) × (outcome ≡ Refused) × IsRefusedFor is_answer refusal known failed
