use Rattle.std.proofs.Common.{◌≡◌, ◌++◌, length}
use Rattle.sci_text.specs.Script.{IsScript, script_text}
use Rattle.sci_text.proofs.script_lines.script_of.Given as goal

-- the input is the text of the script so far, and what is left
abbrev pub invariant-loop-rest : goal.invariant-loop-rest
invariant-loop-rest l = record { good : IsScript l.script; parts : l.input ≡ script_text l.script ++ l.rest }

abbrev pub decreases-loop-rest : goal.decreases-loop-rest
decreases-loop-rest l = length l.rest
