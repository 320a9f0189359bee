-- The answer to an input that can't be read.
use Rattle.std.proofs.Common.{ℕ, List, Bool, Option, inr, refl}
use Rattle.sci_command.specs.{declared.outcome.Outcome.TheVariants.{Refused}, Refusal.{kind_word}}
use Rattle.sci_text.specs.{declared.fault.TextFaultKind.{TextFaultKind}, FirstFault.{IsInputFault}}
use Rattle.scimem.specs.Decoding.{IsInputRefusal, IsAnswer, refusal}

pub refused : (known : Option (List ℕ)) (failed : Bool) (kind : TextFaultKind) → IsInputFault kind known failed
    → IsAnswer known failed (refusal 0 (kind_word kind)) Refused
refused known failed kind why = let line : IsInputRefusal known failed (refusal 0 (kind_word kind)) = record { kind = kind; why = why; line = refl } in
    inr (line, refl)
