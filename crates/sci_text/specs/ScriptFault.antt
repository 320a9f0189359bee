-- The faults of a script's text.
use Rattle.std.specs.Prelude.{◌≡◌, ℕ, ◌+◌, ◌<◌, ◌≤◌, List, ◌++◌, length}
use Rattle.sci_words.specs.declared.{limits.TheConstants.{MAX_OPERATIONS}, operation.Op.{Op}}
use Rattle.sci_words.specs.Extent.{AreWithinLimits}
use Rattle.sci_text.specs.{declared.fault.TextFaultKind.{TextFaultKind}, FirstFault.{Says, LineFault, IsFirstFault}}
use Rattle.sci_text.specs.Script.{ScriptValue, IsScript, IsWithin, count_of, machine_line, operation_line, script_text}

-- what is wrong with the first line: it is no `machine N M C`, whatever the numbers, or the numbers are out of range
abbrev pub MachineFault : List ℕ → TextFaultKind → Type 0
MachineFault bytes kind = LineFault {X = ℕ × ℕ × ℕ} (λ size. Says bytes (machine_line size.0 size.1 size.2)) (λ size. AreWithinLimits size.0 size.1 size.2)
    (λ size. ⊥) kind

-- What is wrong with the line at the front of bytes, after the lines that say the script so far: it is no
-- `p n OP`, whatever the numbers; or a number is out of range; or the node has its operations already.
abbrev pub OperationFault : ScriptValue → List ℕ → TextFaultKind → Type 0
OperationFault s bytes kind = LineFault {X = ℕ × Op} (λ p. Says bytes (operation_line p.0 p.1)) (λ p. IsWithin s.nodes s.lines p.0 p.1)
    (λ p. MAX_OPERATIONS ≤ count_of p.0 s.operations) kind

-- the input begins with the text of a script
abbrev pub BeginsScript : List ℕ → ScriptValue → List ℕ → Type 0
BeginsScript input s rest = IsScript s × (input ≡ script_text s ++ rest)

-- the first line of a script that has a fault, and the fault
abbrev pub IsScriptFault : List ℕ → ℕ → TextFaultKind → Type 0
IsScriptFault input line kind = IsFirstFault MachineFault BeginsScript (λ s rest. 0 < length rest) (λ s. length s.operations + 1) OperationFault input line kind
