use Rattle.sci_axe.proofs.Lines.{IsWithin}
use Rattle.sci_axe.proofs.reading.first_line.Given as goal

-- there is no line feed so far
abbrev pub invariant-loop-place : goal.invariant-loop-place
invariant-loop-place l = IsWithin l.bytes l.place
