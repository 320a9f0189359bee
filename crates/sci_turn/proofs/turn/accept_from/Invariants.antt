use Rattle.sci_policy.specs.Policy.{PolicyOf}
use Rattle.sci_turn.specs.{Moves.{ContinuesTurn, stage}, Whole.{Accepts, FindsNoAnswer}}
use Rattle.sci_turn.proofs.Steps.{HasMade}
use Rattle.sci_turn.proofs.turn.accept_from.Given as goal

abbrev pub invariant-loop-cell : goal.invariant-loop-cell
invariant-loop-cell g l = record {
  goes : (policy : PolicyOf) → ContinuesTurn (stage policy (g.P.Post.post l.fn.post) l.fn.progress) (stage policy (g.P.Post.post l.post) l.progress);
  stays : g.P.Post.stays l.fn.post l.post;
  made : (policy : PolicyOf) → HasMade l._cell (Accepts l.fn.from) (FindsNoAnswer l.fn.from) (stage policy (g.P.Post.post l.fn.post) l.fn.progress)
      (stage policy (g.P.Post.post l.post) l.progress);
}
