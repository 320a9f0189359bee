use Rattle.std.proofs.Common.{◌-◌, ◌&&◌, ℕ, Bool}
use Rattle.sci_words.specs.declared.limits.TheConstants.{MAX_LINES}
use Rattle.sci_policy.specs.{Policy.{has}, Scan.{IsTest}}
use Rattle.sci_policy.proofs.Marks.{AreMarked}
use Rattle.sci_policy.proofs.line_marks.LineMarks.filter.Given as goal

abbrev pub invariant-lines : goal.invariant-lines
invariant-lines g l = (tested : ℕ → Bool) → IsTest MAX_LINES (goal.F-post g l.test) tested
    → AreMarked (λ line. has l.fn.self line && tested line) l.from l.found

abbrev pub decreases-lines : goal.decreases-lines
decreases-lines g l = MAX_LINES - l.from
