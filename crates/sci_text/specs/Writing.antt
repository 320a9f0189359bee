-- Why a text is not written whole.
use Rattle.std.specs.{Prelude.{◌≡◌, ℕ, List, take, Bool, true, false, Option}, Io.KnownBytes.{Appends, Keeps}}
use Rattle.sci_text.specs.declared.fault.TextFaultKind.{TextFaultKind}
use Rattle.sci_text.specs.declared.fault.TextFaultKind.TheVariants.{Syntax, Range, TooMany, Read, Write, Memory}

-- Why a text wasn't written whole: the writer failed, and some of its front may have gone out; or memory was
-- refused, and nothing has.
abbrev pub IsWriteFault : TextFaultKind → Option (List ℕ) → Option (List ℕ) → Bool → List ℕ → Type 0
IsWriteFault Write old new failed text = (failed ≡ true) × ((n : ℕ) × Appends old new (take n text))
IsWriteFault Memory old new failed text = (failed ≡ false) × Keeps old new
IsWriteFault Syntax old new failed text = ⊥
IsWriteFault Range old new failed text = ⊥
IsWriteFault TooMany old new failed text = ⊥
IsWriteFault Read old new failed text = ⊥
