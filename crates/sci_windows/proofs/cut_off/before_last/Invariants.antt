use Rattle.std.proofs.Common.{ℕ, ◌<◌, None, get_or}
use Rattle.sci_windows.specs.CutOff.{IsAtLast}
use Rattle.sci_windows.proofs.cut_off.before_last.Given as goal

-- the lines so far
abbrev pub invariant-loop-line : goal.invariant-loop-line
invariant-loop-line l = (other : ℕ) → other < l.line → IsAtLast (get_or l.faults other None)
