use Rattle.std.proofs.Common.{◌<◌, ◌-◌}
use Rattle.sci_turn.specs.{Moves.{ContinuesTurn, stage}, Whole.{TakesFrom, circle}}
use Rattle.sci_turn.proofs.Steps.{HasPassed}
use Rattle.sci_turn.proofs.turn.take_all.Given as goal

abbrev pub invariant-loop-place : goal.invariant-loop-place
invariant-loop-place g l = record {
  goes : ContinuesTurn (stage l.fn.policy (g.P.Post.post l.fn.post) l.fn.progress) (stage l.policy (g.P.Post.post l.post) l.progress);
  below : l.from < l.nodes;
  stays : g.P.Post.stays l.fn.post l.post;
  passed : HasPassed TakesFrom (circle l.nodes l.from (l.nodes - l._place)) (circle l.nodes l.first l.nodes)
      (stage l.fn.policy (g.P.Post.post l.fn.post) l.fn.progress) (stage l.policy (g.P.Post.post l.post) l.progress);
}
