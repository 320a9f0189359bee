use Rattle.std.proofs.Common.{◌≤◌, ◌-◌}
use Rattle.sci_core.specs.Node.{lines_of}
use Rattle.sci_policy.specs.Scan.{IsTest}
use Rattle.sci_policy.proofs.Oldest.{IsFoundBelow, IsNarrowed}
use Rattle.sci_policy.proofs.lines.oldest.Given as goal

abbrev pub invariant-lines : goal.invariant-lines
invariant-lines g l = (l.from ≤ lines_of l.fn.node)
    × IsFoundBelow l.fn.node (IsNarrowed l.fn.lines (IsTest (lines_of l.fn.node) (goal.F-post g l.test))) l.from l.found

abbrev pub decreases-lines : goal.decreases-lines
decreases-lines g l = lines_of l.fn.node - l.from
