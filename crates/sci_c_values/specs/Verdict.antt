-- The struct of a verdict, and that of a fault of a text.
use Rattle.std.specs.Prelude.{ℕ, Option, Some, None}
use Rattle.sci_history.specs.declared.verdict.FaultKind.{FaultKind}
use Rattle.sci_history.specs.declared.verdict.FaultKind.TheVariants.{VersionTwice, VersionMissing, WrongReply, OutOfOrder, LastDiffers}
use Rattle.sci_history.specs.declared.verdict.Verdict.{Verdict}
use Rattle.sci_text.specs.declared.fault.{TextFault.{TextFault}, TextFaultKind.{TextFaultKind}}
use Rattle.sci_text.specs.declared.fault.TextFaultKind.TheVariants.{Syntax, Range, TooMany, Read, Write, Memory}
use Rattle.sci_c_values.specs.declared.verdict.{SciVerdict.{SciVerdict}, SciTextFault.{SciTextFault}}
use Rattle.sci_history.specs.declared.verdict.Verdict.TheVariants as verdict

-- 1 to 5, since 0 is lawful
abbrev pub kind_number : FaultKind → ℕ
kind_number VersionTwice = 1
kind_number VersionMissing = 2
kind_number WrongReply = 3
kind_number OutOfOrder = 4
kind_number LastDiffers = 5

-- a fault of a line, and the entry where the rule fails, if it names one
abbrev pub fault_struct : ℕ → FaultKind → Option (ℕ × ℕ) → SciVerdict
fault_struct line kind None = record { kind = kind_number kind; line = line; has_entry = 0; node = 0; serial = 0 }
fault_struct line kind (Some at) = record { kind = kind_number kind; line = line; has_entry = 1; node = at.0; serial = at.1 }

abbrev pub lawful_struct : SciVerdict
lawful_struct = record { kind = 0; line = 0; has_entry = 0; node = 0; serial = 0 }

abbrev pub verdict_struct : Verdict → SciVerdict
verdict_struct verdict.Lawful = lawful_struct
verdict_struct (verdict.Fault line kind at) = fault_struct line kind at

abbrev pub text_kind_number : TextFaultKind → ℕ
text_kind_number Syntax = 1
text_kind_number Range = 2
text_kind_number TooMany = 3
text_kind_number Read = 4
text_kind_number Write = 5
text_kind_number Memory = 6

abbrev pub text_fault_struct : TextFault → SciTextFault
text_fault_struct fault = record { line = fault.line; kind = text_kind_number fault.kind; reserved = 0 }
