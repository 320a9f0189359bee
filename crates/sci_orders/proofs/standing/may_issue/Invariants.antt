-- None of the operations so far blocks it, and this number of them waits.
use Rattle.sci_orders.proofs.Passing.{IsPassed}
use Rattle.sci_orders.proofs.standing.may_issue.Given as goal

abbrev pub invariant-loop-j : goal.invariant-loop-j
invariant-loop-j l = IsPassed l.own l.answers l.i l.j l.waiting
