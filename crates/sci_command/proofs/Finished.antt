-- What is written of a command's answer is an answer to its input.
use Rattle.std.proofs.Common.{◌≡◌, ℕ, List, Bool, false, true, Option, Result, Ok, Err, refl, subst, sym}
use Rattle.std.specs.{Prelude.{IfOk, IfErr}, Io.KnownBytes.{Appends}}
use Rattle.sci_text.specs.declared.{fault.TextFaultKind.{TextFaultKind}, tap.Tap.{Tap}}
use Rattle.sci_text.specs.Tap.{has_failed, is_called_again, tapped}
use Rattle.sci_command.specs.declared.{answer.Answer.{Answer}, outcome.Outcome.{Outcome, TheVariants.{Refused}}, refusal.Refusal.{Refusal}}
use Rattle.sci_core.specs.{declared.dead.DeadEvents.{DeadEvents}}
use Rattle.sci_command.specs.Answer.{HasAnswered, IsAnswerAlone, IsAnswerBeside, IsAnswered, IsRefusedFor, IsShownOf, IsWrittenOf}
use Rattle.sci_command.specs.Answer.{answer_in, dead_in, refusal_of}
use Rattle.sci_command.specs.{Beginning.{AreDeadBeside, AreDeadIn}, Input.{IsReadAs}}
use Rattle.sci_command.specs.{Refusal.{IsRefusalBy, line_refusal}, Writing.{HasCarriedOut, HasWritten, WritesFront}}

-- a text that was written, or a front of it, is an answer if the text is
pub written_text : (is_answer : List ℕ → Outcome → Type 0) (text : List ℕ) (outcome : Outcome) → is_answer text outcome
    → (old new : Option (List ℕ)) (failed : Bool) (ended : Outcome) → WritesFront old new text → (failed ≡ false → Appends old new text)
    → (failed ≡ false → ended ≡ outcome) → (failed ≡ true → ended ≡ Refused) → HasWritten old new failed ended is_answer
written_text is_answer text outcome is old new failed ended front whole unfailed refused = record {
  whole = λ ok. (text, whole ok, rw (unfailed ok) is);
  front = (text, outcome, front, is);
  refused = refused;
}

-- a refusal's fault that is told is one that the input is refused for
refused_for : (is_answer : Option (List ℕ) → Bool → List ℕ → Outcome → Type 0) (is_told : TextFaultKind → ℕ → Type 0) (known : Option (List ℕ)) (unread : Bool)
    (refusal : Refusal) → ((text : List ℕ) → IsRefusalBy is_told text → is_answer known unread text Refused)
    → is_told refusal.fault.kind refusal.fault.line → IsRefusedFor is_answer refusal known unread
refused_for is_answer is_told known unread refusal refused told =
    let fault = refusal.fault in
    refused (line_refusal fault.line fault.kind) (record { line = fault.line; kind = fault.kind; is_told = told; written = refl })

-- a text of which this holds that was written of an answered command
abbrev Answers : (Option Refusal → List ℕ → Outcome → Type 0) → (Result Answer Refusal → List ℕ → Outcome → Type 0) → Result Answer Refusal → Type 0
Answers is_answer is_written result = (text : List ℕ) (outcome : Outcome) → is_written result text outcome → is_answer (refusal_of result) text outcome

-- what is written of an answered command answers its input
written_answers : (is_answer : Option Refusal → List ℕ → Outcome → Type 0) (is_written : Result Answer Refusal → List ℕ → Outcome → Type 0)
    (result : Result Answer Refusal) → Answers is_answer is_written result → {old new : Option (List ℕ)} {failed : Bool} {outcome : Outcome}
    (refusal : Option Refusal) → refusal ≡ refusal_of result
    → HasWritten old new failed outcome (is_written result) → HasWritten old new failed outcome (is_answer refusal)
written_answers is_answer is_written result answers {outcome = outcome} refusal is written =
    let front = written.front in
    let said = λ (text : List ℕ) (ends : Outcome) (h : is_written result text ends).
    subst (λ (r : Option Refusal). is_answer r text ends) (sym is) (answers text ends h) in record {
      whole = λ unfailed. (let whole = written.whole unfailed in (whole.0, whole.1, said whole.0 outcome whole.2));
      front = (front.0, front.1, front.2, said front.0 front.1 front.3);
      refused = written.refused;
    }

-- a command has carried out what it was asked, if what is written of its answer answers its input
pub carried_out_as : {R W : Type 0} {remaining : R → Option (List ℕ)} {contents : W → Option (List ℕ)} {reader read : Tap R} {writer written : Tap W}
    {outcome : Outcome} (is_answer : Option Refusal → Option (List ℕ) → Bool → List ℕ → Outcome → Type 0)
    (is_written : Result Answer Refusal → List ℕ → Outcome → Type 0) (result : Result Answer Refusal) (refusal : Option Refusal)
    → Answers (λ r. is_answer r (remaining (tapped reader)) (has_failed read)) is_written result → refusal ≡ refusal_of result
    → is_called_again read ≡ is_called_again reader
    → HasWritten (contents (tapped writer)) (contents (tapped written)) (has_failed written) outcome (is_written result)
    → is_called_again written ≡ is_called_again writer
    → HasCarriedOut remaining contents reader read writer written outcome (is_answer refusal)
carried_out_as {remaining = remaining} {reader = reader} {read} is_answer is_written result refusal answers is read_no_more whole wrote_no_more = record {
  answers = written_answers (λ r. is_answer r (remaining (tapped reader)) (has_failed read)) is_written result answers refusal is whole;
  read_no_more = read_no_more;
  wrote_no_more = wrote_no_more;
}

module _ (is_answer : Option (List ℕ) → Bool → List ℕ → Outcome → Type 0) (is_told : TextFaultKind → Option (List ℕ) → Bool → ℕ → Type 0)
    (known : Option (List ℕ)) (unread : Bool) (refused : (text : List ℕ) → IsRefusalBy (λ kind line. is_told kind known unread line) text
    → is_answer known unread text Refused) where
  -- of a command that writes its answer, or nothing if the input is refused
  pub shown_answers : (result : Result Answer Refusal) → IsAnswered is_answer is_told known unread result
      → Answers (λ r. IsAnswerAlone is_answer r known unread) IsShownOf result
  shown_answers (Ok answer) answered text outcome written = rw (written.0, written.1) answered
  shown_answers (Err refusal) told text outcome written =
      (written.0, written.1, refused_for is_answer (λ kind line. is_told kind known unread line) known unread refusal refused told)

  -- of a command that writes its answer, or the line that refuses its input
  pub answers_beside : (result : Result Answer Refusal) → IsAnswered is_answer is_told known unread result
      → Answers (λ r. IsAnswerBeside is_answer r known unread) IsWrittenOf result
  answers_beside (Ok answer) answered text outcome written = rw (written.0, written.1) answered
  answers_beside (Err refusal) told text outcome written =
      let why = refused_for is_answer (λ kind line. is_told kind known unread line) known unread refusal refused told in
      (rw (written.0, written.1) why, written.1, why)

-- a command has carried out what it was asked, and writes nothing if its input is refused
pub carried_out : {R W : Type 0} {remaining : R → Option (List ℕ)} {contents : W → Option (List ℕ)} {reader read : Tap R} {writer written : Tap W}
    {outcome : Outcome} (is_answer : Option (List ℕ) → Bool → List ℕ → Outcome → Type 0) (is_told : TextFaultKind → Option (List ℕ) → Bool → ℕ → Type 0)
    (result : Result Answer Refusal) (refusal : Option Refusal)
    → ((text : List ℕ) → IsRefusalBy (λ kind line. is_told kind (remaining (tapped reader)) (has_failed read) line) text
    → is_answer (remaining (tapped reader)) (has_failed read) text Refused)
    → HasAnswered remaining reader read is_answer is_told result → refusal ≡ refusal_of result
    → HasWritten (contents (tapped writer)) (contents (tapped written)) (has_failed written) outcome (IsShownOf result)
    → is_called_again written ≡ is_called_again writer
    → HasCarriedOut remaining contents reader read writer written outcome (IsAnswerAlone is_answer refusal)
carried_out {remaining = remaining} {reader = reader} {read} is_answer is_told result refusal refused answered is whole wrote_no_more =
    carried_out_as (IsAnswerAlone is_answer) IsShownOf result refusal
    (shown_answers is_answer is_told (remaining (tapped reader)) (has_failed read) refused result answered.0) is answered.1 whole wrote_no_more

-- the same of a command that writes the line which refuses its input
pub carried_out_beside : {R W : Type 0} {remaining : R → Option (List ℕ)} {contents : W → Option (List ℕ)} {reader read : Tap R} {writer written : Tap W}
    {outcome : Outcome} (is_answer : Option (List ℕ) → Bool → List ℕ → Outcome → Type 0) (is_told : TextFaultKind → Option (List ℕ) → Bool → ℕ → Type 0)
    (result : Result Answer Refusal) (refusal : Option Refusal)
    → ((text : List ℕ) → IsRefusalBy (λ kind line. is_told kind (remaining (tapped reader)) (has_failed read) line) text
    → is_answer (remaining (tapped reader)) (has_failed read) text Refused)
    → HasAnswered remaining reader read is_answer is_told result → refusal ≡ refusal_of result
    → HasWritten (contents (tapped writer)) (contents (tapped written)) (has_failed written) outcome (IsWrittenOf result)
    → is_called_again written ≡ is_called_again writer
    → HasCarriedOut remaining contents reader read writer written outcome (IsAnswerBeside is_answer refusal)
carried_out_beside {remaining = remaining} {reader = reader} {read} is_answer is_told result refusal refused answered is whole wrote_no_more =
    let known = remaining (tapped reader) in
    let unread = has_failed read in
    carried_out_as (IsAnswerBeside is_answer) IsWrittenOf result refusal
    (answers_beside is_answer is_told known unread refused result answered.0) is answered.1 whole wrote_no_more

-- an answer that is right, or a fault that is told, of a command that reads nothing
pub answered_by : (is_answer : List ℕ → Outcome → Type 0) (is_told : TextFaultKind → ℕ → Type 0) (known : Option (List ℕ)) (unread : Bool)
    (result : Result Answer Refusal) → IfOk result (λ answer. (answer.outcome ≡ Refused → ⊥) × is_answer answer.text.items answer.outcome)
    → IfErr result (λ refusal. is_told refusal.fault.kind refusal.fault.line)
    → IsAnswered (λ input failed. is_answer) (λ kind input failed. is_told kind) known unread result
answered_by is_answer is_told known unread (Ok answer) ok err = ok
answered_by is_answer is_told known unread (Err refusal) ok err = err

-- what standard error says of the events of a schedule is of the input, or nothing
pub dead_beside : (known : Option (List ℕ)) (unread : Bool) (replayed : Result (Answer × Option DeadEvents) Refusal)
    → IfOk replayed (λ answered. IsReadAs known unread (λ bytes. AreDeadIn bytes answered.1)) → (refusal : Option Refusal)
    → refusal ≡ refusal_of (answer_in replayed) → (dead : Option DeadEvents) → dead ≡ dead_in replayed → AreDeadBeside known unread refusal dead
dead_beside known unread (Ok answered) are refusal r dead d = rw (r, d) are
dead_beside known unread (Err why) are refusal r dead d = rw r d
