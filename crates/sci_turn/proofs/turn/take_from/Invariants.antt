use Rattle.sci_turn.specs.{Moves.{ContinuesTurn, stage}, Whole.{FindsNoRequest, Takes}}
use Rattle.sci_turn.proofs.Steps.{HasMade}
use Rattle.sci_turn.proofs.turn.take_from.Given as goal

abbrev pub invariant-loop-cell : goal.invariant-loop-cell
invariant-loop-cell g l = record {
  goes : ContinuesTurn (stage l.fn.policy (g.P.Post.post l.fn.post) l.fn.progress) (stage l.policy (g.P.Post.post l.post) l.progress);
  stays : g.P.Post.stays l.fn.post l.post;
  made : HasMade l._cell (Takes l.fn.from) (FindsNoRequest l.fn.from) (stage l.fn.policy (g.P.Post.post l.fn.post) l.fn.progress)
      (stage l.policy (g.P.Post.post l.post) l.progress);
}
