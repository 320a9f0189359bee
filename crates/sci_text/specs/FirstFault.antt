-- What is reported of a text with a fault: the first line that has one, and of its faults the first. This is one theory for
-- scripts, schedules and logs.
use Rattle.std.specs.Prelude.{◌≡◌, ℕ, ◌+◌, ◌<◌, ◌≤◌, ◌⊎◌, Bool, true, false, List, ◌++◌, length, Option, IfSome, Result, Ok, Err}
use Rattle.sci_words.specs.declared.limits.TheConstants.{MAX_INPUT_BYTES, MAX_TEXT_LINE_BYTES}
use Rattle.sci_text.specs.declared.fault.{TextFault.{TextFault}, TextFaultKind.{TextFaultKind}}
use Rattle.sci_text.specs.declared.fault.TextFaultKind.TheVariants.{Syntax, Range, TooMany, Read, Write, Memory}

-- ---- one line

-- a line, of which the line feed isn't counted, has at most 256 bytes
abbrev pub IsShort : List ℕ → Type 0
IsShort line = length line ≤ MAX_TEXT_LINE_BYTES + 1

-- the bytes begin with this line, and it isn't too long
pub record Says (bytes line : List ℕ) : Type 0 where
  pub rest : List ℕ
  pub parts : bytes ≡ line ++ rest
  pub short : IsShort line

-- What is wrong with a line, if `says x` means that it says x: it says nothing that can stand there, whatever the
-- numbers; or what it says is out of range; or there is no more room for what it says.
abbrev pub LineFault : {X : Type 0} → (X → Type 0) → (X → Type 0) → (X → Type 0) → TextFaultKind → Type 0
LineFault says fits is_full Syntax = (x : _) → says x → ⊥
LineFault says fits is_full Range = (x : _) × says x × (fits x → ⊥)
LineFault says fits is_full TooMany = (x : _) × says x × fits x × is_full x
LineFault says fits is_full Read = ⊥
LineFault says fits is_full Write = ⊥
LineFault says fits is_full Memory = ⊥

-- ---- the first line that has a fault

-- The input begins with the lines of a value, which are right, and goes on with a line that has a fault, or ends too
-- early. `begins input v rest`: the rest follows the lines of v. `count v` is the number of those lines.
pub record FaultAfter {V : Type 0} (begins : List ℕ → V → List ℕ → Type 0) (goes_on : V → List ℕ → Type 0) (count : V → ℕ) (fault : V → List ℕ → TextFaultKind
    → Type 0) (input : List ℕ) (line : ℕ) (kind : TextFaultKind) : Type 0 where
  pub before : V
  pub rest : List ℕ
  pub right : begins input before rest
  pub more : goes_on before rest
  pub place : line ≡ count before + 1
  pub wrong : fault before rest kind

-- the first line that has a fault, and the fault: the opening line, or one after lines that are right
abbrev pub IsFirstFault : {V : Type 0} → (List ℕ → TextFaultKind → Type 0) → (List ℕ → V → List ℕ → Type 0) → (V → List ℕ → Type 0) → (V → ℕ)
    → (V → List ℕ → TextFaultKind → Type 0) → List ℕ → ℕ → TextFaultKind → Type 0
IsFirstFault opening begins goes_on count fault input line kind = ((line ≡ 1) × opening input kind) ⊎ FaultAfter begins goes_on count fault input line kind

-- the line that is reported with a fault that is found on a line: 0 if memory was refused
abbrev pub told_line : ℕ → TextFaultKind → ℕ
told_line line Syntax = line
told_line line Range = line
told_line line TooMany = line
told_line line Read = line
told_line line Write = line
told_line line Memory = 0

-- the fault is of this kind, and reported of this line
abbrev pub IsToldAt : ℕ → TextFaultKind → TextFault → Type 0
IsToldAt line kind fault = (fault.kind ≡ kind) × (fault.line ≡ told_line line kind)

-- why bytes in memory are refused: they have a faulty line, or memory was refused
abbrev pub IsRefusalOf : (List ℕ → ℕ → TextFaultKind → Type 0) → TextFaultKind → List ℕ → ℕ → Type 0
IsRefusalOf is_first Syntax input line = is_first input line Syntax
IsRefusalOf is_first Range input line = is_first input line Range
IsRefusalOf is_first TooMany input line = is_first input line TooMany
IsRefusalOf is_first Read input line = ⊥
IsRefusalOf is_first Write input line = ⊥
IsRefusalOf is_first Memory input line = line ≡ 0

abbrev pub IsRefusal : (List ℕ → ℕ → TextFaultKind → Type 0) → List ℕ → TextFault → Type 0
IsRefusal is_first input fault = IsRefusalOf is_first fault.kind input fault.line

-- ---- the whole input

-- why an input can't be read: the reader failed, it gives too many bytes, or memory was refused
abbrev pub IsInputFault : TextFaultKind → Option (List ℕ) → Bool → Type 0
IsInputFault Read known failed = failed ≡ true
IsInputFault TooMany known failed = (failed ≡ false) × IfSome known (λ input. MAX_INPUT_BYTES < length input)
IsInputFault Memory known failed = failed ≡ false
IsInputFault Syntax known failed = ⊥
IsInputFault Range known failed = ⊥
IsInputFault Write known failed = ⊥

-- These bytes were read: they are those that the reader has, if its contents are known, and not too many.
pub record AreRead (known : Option (List ℕ)) (bytes : List ℕ) : Type 0 where
  pub same : IfSome known (λ input. bytes ≡ input)
  pub few : length bytes ≤ MAX_INPUT_BYTES

-- this is the first faulty line of the bytes that were read
pub record IsFaultyLine (is_first : List ℕ → ℕ → TextFaultKind → Type 0) (known : Option (List ℕ)) (line : ℕ) (kind : TextFaultKind) : Type 0 where
  pub bytes : List ℕ
  pub read : AreRead known bytes
  pub first : is_first bytes line kind

-- the input is too long, or a line has one too many
abbrev pub IsTooMany : (List ℕ → ℕ → TextFaultKind → Type 0) → Option (List ℕ) → ℕ → Type 0
IsTooMany is_first known line = ((line ≡ 0) × IfSome known (λ input. MAX_INPUT_BYTES < length input)) ⊎ IsFaultyLine is_first known line TooMany

-- Which fault is reported, and at which line. `known` is the input, if the reader's contents are known; `failed` says
-- whether a read failed. The whole input comes first, then the first line with a fault.
abbrev pub IsTold : (List ℕ → ℕ → TextFaultKind → Type 0) → TextFaultKind → Option (List ℕ) → Bool → ℕ → Type 0
IsTold is_first Read known failed line = (failed ≡ true) × (line ≡ 0)
IsTold is_first Memory known failed line = (failed ≡ false) × (line ≡ 0)
IsTold is_first Syntax known failed line = (failed ≡ false) × IsFaultyLine is_first known line Syntax
IsTold is_first Range known failed line = (failed ≡ false) × IsFaultyLine is_first known line Range
IsTold is_first TooMany known failed line = (failed ≡ false) × IsTooMany is_first known line
IsTold is_first Write known failed line = ⊥

-- the result is the value, unless the reader failed or memory was refused
abbrev pub GivesOnly : {T : Type 0} → T → Result T TextFault → Type 0
GivesOnly value (Ok read) = read ≡ value
GivesOnly value (Err fault) = (fault.kind ≡ Read) ⊎ (fault.kind ≡ Memory)

-- ---- laws

-- bytes have at most one first faulty line, and one fault there
abbrev pub HasOneFault : (List ℕ → ℕ → TextFaultKind → Type 0) → Type 0
HasOneFault is_first = (input : List ℕ) (l m : ℕ) (k j : TextFaultKind) → is_first input l k → is_first input m j → (l ≡ m) × (k ≡ j)

-- a text has no line with a fault
abbrev pub HasNoFault : (List ℕ → ℕ → TextFaultKind → Type 0) → List ℕ → Type 0
HasNoFault is_first text = (line : ℕ) (kind : TextFaultKind) → is_first text line kind → ⊥

-- a text is of one value
abbrev pub IsOfOne : {V : Type 0} → (V → Type 0) → (V → List ℕ) → Type 0
IsOfOne is_good text = (a b : _) → is_good a → is_good b → text a ≡ text b → a ≡ b
