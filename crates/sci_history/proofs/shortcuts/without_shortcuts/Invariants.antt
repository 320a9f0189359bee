use Rattle.std.proofs.Common.{◌≤◌}
use Rattle.sci_history.proofs.Shortening.{IsKept}
use Rattle.sci_history.proofs.shortcuts.without_shortcuts.Given as goal

abbrev pub invariant-loop-place : goal.invariant-loop-place
invariant-loop-place l = record {
  reached : l.place ≤ l.next;
  kept : IsKept l.steps l.kept.items l.part.first l.part.last l.next;
}
