-- A fault of bytes that were read is told of the input that they came from.
use Rattle.std.proofs.Common.{◌≡◌, ℕ, List, Bool, false, Option, Result, Ok, Err, subst, sym, refl}
use Rattle.std.specs.Prelude.{IfErr}
use Rattle.sci_text.specs.declared.fault.{TextFault.{TextFault}, TextFaultKind.{TextFaultKind}}
use Rattle.sci_text.specs.FirstFault.{AreRead, IsRefusal, IsTold}
use Rattle.sci_text.proofs.FirstFaults.{told_of_bytes}
use Rattle.sci_command.specs.declared.refusal.Refusal.{Refusal}

-- a fault that bytes in memory are refused for is told of the input
pub told_refusal : (is_first : List ℕ → ℕ → TextFaultKind → Type 0) (known : Option (List ℕ)) (failed : Bool) {bytes : List ℕ} (fault other : TextFault)
    → other ≡ fault → failed ≡ false → AreRead known bytes → IsRefusal is_first bytes fault → IsTold is_first other.kind known failed other.line
told_refusal is_first known failed {bytes} fault other is unfailed read why =
    let result : Result (Unit {0}) TextFault = Err fault in
    subst (λ (f : TextFault). IsTold is_first f.kind known failed f.line) (sym is) (told_of_bytes is_first known failed bytes result unfailed read why)

pub told_refusals : {T : Type 0} (is_first : List ℕ → ℕ → TextFaultKind → Type 0) (known : Option (List ℕ)) (failed : Bool) {bytes : List ℕ}
    (result : Result T Refusal) → failed ≡ false → AreRead known bytes → IfErr result (λ refusal. IsRefusal is_first bytes refusal.fault)
    → IfErr result (λ refusal. IsTold is_first refusal.fault.kind known failed refusal.fault.line)
told_refusals is_first known failed (Ok x) unfailed read why = tt
told_refusals is_first known failed (Err refusal) unfailed read why =
    told_refusal is_first known failed refusal.fault refusal.fault refl unfailed read why
