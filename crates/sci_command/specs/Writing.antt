-- What is written of a text.
use Rattle.std.specs.{Prelude.{◌≡◌, ℕ, Bool, false, true, List, ◌++◌, Option}, Io.KnownBytes.{Appends}}
use Rattle.sci_text.specs.{declared.tap.Tap.{Tap}, Tap.{has_failed, is_called_again, tapped}}
use Rattle.sci_command.specs.declared.outcome.Outcome.{Outcome, TheVariants.{Refused}}

-- a front of the text is written, and nothing else
pub record WritesFront (old new : Option (List ℕ)) (text : List ℕ) : Type 0 where
  pub written : List ℕ
  pub rest : List ℕ
  pub parts : text ≡ written ++ rest
  pub appended : Appends old new written

-- A front of a text is written, and nothing else. Unless a write has failed, the rest is what waits.
pub record IsPrinted (old new : Option (List ℕ)) (failed : Bool) (waiting text : List ℕ) : Type 0 where
  pub front : WritesFront old new text
  pub waits : failed ≡ false → (written : List ℕ) × Appends old new written × (text ≡ written ++ waiting)

-- An answer is written, and nothing else, and the command ends as it says; if a write fails, a front of it is written, and
-- the command ends Refused.
pub record HasWritten (old new : Option (List ℕ)) (failed : Bool) (outcome : Outcome) (is_answer : List ℕ → Outcome → Type 0) : Type 0 where
  pub whole : failed ≡ false → (text : List ℕ) × Appends old new text × is_answer text outcome
  pub front : (text : List ℕ) × (ends : Outcome) × WritesFront old new text × is_answer text ends
  pub refused : failed ≡ true → outcome ≡ Refused

-- A command has written an answer to what its reader had, and has read and written nothing more after a read or a write that
-- failed. `read` and `written` are the reader and the writer after it.
pub record HasCarriedOut {R W : Type 0} (remaining : R → Option (List ℕ)) (contents : W → Option (List ℕ)) (reader read : Tap R) (writer written : Tap W)
    (outcome : Outcome) (is_answer : Option (List ℕ) → Bool → List ℕ → Outcome → Type 0) : Type 0 where
  pub answers : HasWritten (contents (tapped writer)) (contents (tapped written)) (has_failed written) outcome
      (is_answer (remaining (tapped reader)) (has_failed read))
  pub read_no_more : is_called_again read ≡ is_called_again reader
  pub wrote_no_more : is_called_again written ≡ is_called_again writer
