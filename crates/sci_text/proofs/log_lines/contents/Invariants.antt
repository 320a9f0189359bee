use Rattle.std.proofs.Common.{◌≡◌, ◌++◌, length}
use Rattle.sci_text.specs.Log.{last_lines}
use Rattle.sci_text.proofs.LogFronts.{IsFrontOf}
use Rattle.sci_text.proofs.log_lines.contents.Given as goal

-- the contents that were read, and what is left
abbrev pub invariant-loop-last : goal.invariant-loop-last
invariant-loop-last l = record {
  good : IsFrontOf l.form l.last.items;
  parts : l.bytes ≡ last_lines 0 l.last.items ++ l.rest;
}

abbrev pub decreases-loop-last : goal.decreases-loop-last
decreases-loop-last l = length l.rest
