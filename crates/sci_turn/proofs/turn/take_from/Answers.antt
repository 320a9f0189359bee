use Rattle.std.proofs.Common.{rules}
use Rattle.sci_turn.specs.Whole.{FindsNoRequest, Takes}
use Rattle.sci_turn.proofs.{Moments.{node_stays}, LongerTurns.{goes_then}, Steps.{made_all, made_last, made_more}}
use Rattle.sci_turn.proofs.turn.take_from.Goals as goal

pub take-requires : goal.take-requires
take-requires g c = node_stays c.args.from (g.P.Post.post c.args.post.now) (g.P.Post.post c.loop-cell.post) c.loop-cell.invariant.goes.same c.requires

pub returns-in_err-take-clause-goes : goal.returns-in_err-take-clause-goes
returns-in_err-take-clause-goes g c = goes_then _ _ _ c.loop-cell.invariant.goes c.take.ensures.goes

pub loop-cell-preserved : goal.loop-cell-preserved
loop-cell-preserved g c = record {
  goes = goes_then _ _ _ c.loop-cell.invariant.goes c.take.ensures.goes;
  stays = search rules;
  made = made_more c.loop-cell._cell (Takes c.args.from) (FindsNoRequest c.args.from) _ _ _ c.loop-cell-test.true c.loop-cell.invariant.made
      (c.in_ok-take.ensures.takes c.if-not-branch.false);
}

pub returns-then-not-branch-clause-goes : goal.returns-then-not-branch-clause-goes
returns-then-not-branch-clause-goes g c = goes_then _ _ _ c.loop-cell.invariant.goes c.take.ensures.goes

pub returns-then-not-branch-clause-takes : goal.returns-then-not-branch-clause-takes
returns-then-not-branch-clause-takes g c = λ _.
    made_last c.loop-cell._cell (Takes c.args.from) (FindsNoRequest c.args.from) _ _ _ c.loop-cell-test.true c.loop-cell.invariant.made
    (c.in_ok-take.ensures.none c.if-not-branch.true)

pub returns-clause-takes : goal.returns-clause-takes
returns-clause-takes g c = λ _.
    made_all c.loop-cell._cell (Takes c.args.from) (FindsNoRequest c.args.from) _ _ c.loop-cell-test.false c.loop-cell.invariant.made
