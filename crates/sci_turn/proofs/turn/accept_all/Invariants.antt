use Rattle.std.proofs.Common.{◌≤◌, ◌-◌}
use Rattle.std.specs.List.{range_with_len}
use Rattle.sci_policy.specs.Policy.{PolicyOf}
use Rattle.sci_turn.specs.{Moves.{ContinuesTurn, stage}, Whole.{AcceptsFrom}}
use Rattle.sci_turn.proofs.Steps.{HasPassed}
use Rattle.sci_turn.proofs.turn.accept_all.Given as goal

abbrev pub invariant-answers : goal.invariant-answers
invariant-answers g l = record {
  goes : (policy : PolicyOf) → ContinuesTurn (stage policy (g.P.Post.post l.fn.post) l.fn.progress) (stage policy (g.P.Post.post l.post) l.progress);
  stays : g.P.Post.stays l.fn.post l.post;
  passed : (policy : PolicyOf) → HasPassed AcceptsFrom (range_with_len l.next (l._nodes - l.next)) (range_with_len 0 l._nodes)
      (stage policy (g.P.Post.post l.fn.post) l.fn.progress) (stage policy (g.P.Post.post l.post) l.progress);
  few : l.next ≤ l._nodes;
}

abbrev pub decreases-answers : goal.decreases-answers
decreases-answers g l = l._nodes - l.next
