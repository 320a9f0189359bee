-- A text is written from its front.
use Rattle.std.proofs.Common.{◌≡◌, ℕ, List, take, drop, Bool, true, Option, Result, Ok, Err, sym}
use Rattle.std.proofs.lemmas.List.{take-append-drop}
use Rattle.std.specs.Prelude.{IfErr, is_err}
use Rattle.sci_text.specs.declared.fault.{TextFault.{TextFault}, TextFaultKind.TheVariants.{Write}}
use Rattle.sci_text.specs.Writing.{IsWriteFault}
use Rattle.sci_command.specs.Writing.{WritesFront}

pub front_written : (old new : Option (List ℕ)) (failed : Bool) (text : List ℕ) → IsWriteFault Write old new failed text → WritesFront old new text
front_written old new failed text fault = record {
  written = take fault.1.0 text;
  rest = drop fault.1.0 text;
  parts = sym (take-append-drop fault.1.0 text);
  appended = fault.1.1;
}

-- if a write failed, a front of the text is written
pub written_before_fault : (result : Result (Unit {0}) TextFault) (old new : Option (List ℕ)) (failed : Bool) (text : List ℕ) → is_err result ≡ true
    → IfErr result (λ fault. fault.kind ≡ Write) → IfErr result (λ fault. IsWriteFault fault.kind old new failed text) → WritesFront old new text
written_before_fault (Ok u) old new failed text err kind fault = absurd (cc)
written_before_fault (Err f) old new failed text err kind fault = front_written old new failed text (rw kind at fault)
