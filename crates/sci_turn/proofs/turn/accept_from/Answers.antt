use Rattle.std.proofs.Common.{rules}
use Rattle.sci_policy.specs.Policy.{opening_policy}
use Rattle.sci_turn.specs.{Whole.{Accepts, FindsNoAnswer}}
use Rattle.sci_turn.proofs.{Moments.{node_stays}, LongerTurns.{goes_then}, Steps.{made_all, made_last, made_more}}
use Rattle.sci_turn.proofs.turn.accept_from.Goals as goal

pub accept-requires : goal.accept-requires
accept-requires g c = node_stays c.args.from (g.P.Post.post c.args.post.now) (g.P.Post.post c.loop-cell.post) (c.loop-cell.invariant.goes opening_policy).same
    c.requires

pub returns-in_err-accept-clause-goes : goal.returns-in_err-accept-clause-goes
returns-in_err-accept-clause-goes g c = λ policy. goes_then _ _ _ (c.loop-cell.invariant.goes policy) (c.accept.ensures.goes policy)

pub loop-cell-preserved : goal.loop-cell-preserved
loop-cell-preserved g c =
    let from = c.args.from in
    record {
      goes = λ policy. goes_then _ _ _ (c.loop-cell.invariant.goes policy) (c.accept.ensures.goes policy);
      stays = search rules;
      made = λ policy. made_more c.loop-cell._cell (Accepts from) (FindsNoAnswer from) _ _ _ c.loop-cell-test.true (c.loop-cell.invariant.made policy)
          (c.in_ok-accept.ensures.accepts c.if-not-branch.false policy);
    }

pub returns-then-not-branch-clause-goes : goal.returns-then-not-branch-clause-goes
returns-then-not-branch-clause-goes g c = λ policy. goes_then _ _ _ (c.loop-cell.invariant.goes policy) (c.accept.ensures.goes policy)

pub returns-then-not-branch-clause-accepts : goal.returns-then-not-branch-clause-accepts
returns-then-not-branch-clause-accepts g c = λ _ policy.
    made_last c.loop-cell._cell (Accepts c.args.from) (FindsNoAnswer c.args.from) _ _ _ c.loop-cell-test.true (c.loop-cell.invariant.made policy)
    (c.in_ok-accept.ensures.none c.if-not-branch.true policy)

pub returns-clause-accepts : goal.returns-clause-accepts
returns-clause-accepts g c = λ _ policy.
    made_all c.loop-cell._cell (Accepts c.args.from) (FindsNoAnswer c.args.from) _ _ c.loop-cell-test.false (c.loop-cell.invariant.made policy)
