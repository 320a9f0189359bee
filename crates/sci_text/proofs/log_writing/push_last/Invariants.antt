use Rattle.std.proofs.Common.{◌≡◌, ◌++◌, take}
use Rattle.sci_text.specs.Log.{last_lines}
use Rattle.sci_text.proofs.log_writing.push_last.Given as goal

-- the lines so far
abbrev pub invariant-loop-line : goal.invariant-loop-line
invariant-loop-line l = l.out.items ≡ l.fn.out.items ++ last_lines 0 (take l.line l.last)
