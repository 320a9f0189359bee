-- What the calls that read and write texts answer.
use Rattle.std.specs.Prelude.{◌≡◌, ◌≢◌, ◌<◌, ℕ, List, length}
use Rattle.sci_words.specs.Extent.{AreWithinLimits}
use Rattle.sci_text.specs.declared.fault.{TextFault.{TextFault}, TextFaultKind.{TextFaultKind, TheVariants.{Memory}}}
use Rattle.sci_text.specs.FirstFault.{IsRefusal}
use Rattle.sci_c_values.specs.declared.{status.TheConstants.{SCI_FULL, SCI_NO_MEMORY, SCI_OK, SCI_RANGE}, verdict.SciTextFault.{SciTextFault}}
use Rattle.sci_c_values.specs.{Saying.{SaysNone}, Verdict.{text_fault_struct}}
use Rattle.sci_c.specs.Written.{StandOver}

-- the first fault of a text
pub record IsTextFault (is_first : List ℕ → ℕ → TextFaultKind → Type 0) (text : List ℕ) (c : SciTextFault) : Type 0 where
  pub fault : TextFault
  pub refused : IsRefusal is_first text fault
  pub not_memory : fault.kind ≢ Memory
  pub struct_is : c ≡ text_fault_struct fault

-- the text of the value that a struct says stands over the first bytes
pub record IsTextOver {X : Type 0} (says : X → Type 0) (text_of : X → List ℕ) (old new : List ℕ) (used : ℕ) : Type 0 where
  pub value : X
  pub said : says value
  pub stand : StandOver (text_of value) old new used

-- it has more bytes than there is room
pub record IsTextLonger {X : Type 0} (says : X → Type 0) (text_of : X → List ℕ) (old : List ℕ) (used : ℕ) : Type 0 where
  pub value : X
  pub said : says value
  pub length_is : used ≡ length (text_of value)
  pub more : length old < used

-- the numbers of a machine's size are within their limits
abbrev pub SaysSize : ℕ → ℕ → ℕ → Unit {0} → Type 0
SaysSize nodes lines slots it = AreWithinLimits nodes lines slots

-- the status of a struct that says nothing
pub record IsOutOfRange {X : Type 0} (says : X → Type 0) (status : ℕ) : Type 0 where
  pub number : status ≡ SCI_RANGE
  pub none : SaysNone says

-- what each status of a call says that writes the text of the value that a struct says; `refuses` is of a struct that says none
pub record IsWriting {X : Type 0} (says : X → Type 0) (refuses : ℕ → Type 0) (text_of : X → List ℕ) (old new : List ℕ) (was used status : ℕ) : Type 0 where
  pub written : status ≡ SCI_OK → IsTextOver says text_of old new used
  pub full : status ≡ SCI_FULL → IsTextLonger says text_of old used
  pub memory : status ≡ SCI_NO_MEMORY → (value : X) × says value
  pub refused : status ≢ SCI_OK → status ≢ SCI_FULL → status ≢ SCI_NO_MEMORY → refuses status
  pub same : status ≢ SCI_OK → new ≡ old
  pub same_used : status ≢ SCI_OK → status ≢ SCI_FULL → used ≡ was
