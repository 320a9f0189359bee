use Rattle.std.proofs.Common.{refl}
use Rattle.sci_policy.specs.Policy.{PolicyOf}
use Rattle.sci_turn.specs.{Moves.{stage}, Whole.{MakesNone}}
use Rattle.sci_turn.proofs.{Moments.{node_stays}, LongerTurns.{goes_still, goes_then}, Steps.{accepts_after, none_at}}
use Rattle.sci_turn.proofs.turn.accept.Goals.{After-look}
use Rattle.sci_turn.proofs.turn.accept.Goals as goal

-- a look makes no event
looked : (g : _) (c : After-look g) (policy : PolicyOf) → MakesNone (stage policy (g.P.Post.post c.args.post.now) c.args.progress.now)
    (stage policy (g.P.Post.post c.look.new.self) c.args.progress.now)
looked g c policy = none_at policy c.args.progress.now _ _ c.look.ensures.still

pub returns-in_err-look-clause-goes : goal.returns-in_err-look-clause-goes
returns-in_err-look-clause-goes g c = λ policy. goes_still _ _ (looked g (goal.at.returns-in_err-look-clause-goes g c).After-look policy)

pub returns-then-not-branch-clause-goes : goal.returns-then-not-branch-clause-goes
returns-then-not-branch-clause-goes g c = λ policy. goes_still _ _ (looked g (goal.at.returns-then-not-branch-clause-goes g c).After-look policy)

pub returns-then-not-branch-clause-none : goal.returns-then-not-branch-clause-none
returns-then-not-branch-clause-none g c =
    λ _ policy. (looked g (goal.at.returns-then-not-branch-clause-none g c).After-look policy, c.in_ok-look.ensures.none c.if-not-branch.true)

pub accept_seen-requires-clause-from : goal.accept_seen-requires-clause-from
accept_seen-requires-clause-from g c =
    node_stays c.args.from (g.P.Post.post c.args.post.now) (g.P.Post.post c.look.new.self) c.look.ensures.still.same c.requires

pub returns-in_err-accept_seen-clause-goes : goal.returns-in_err-accept_seen-clause-goes
returns-in_err-accept_seen-clause-goes g c = λ policy.
    goes_then _ _ _ (goes_still _ _ (looked g (goal.at.returns-in_err-accept_seen-clause-goes g c).After-look policy)) (c.accept_seen.ensures.goes policy)

pub returns-clause-goes : goal.returns-clause-goes
returns-clause-goes g c = λ policy.
    goes_then _ _ _ (goes_still _ _ (looked g (goal.at.returns-clause-goes g c).After-look policy)) (c.accept_seen.ensures.goes policy)

pub returns-clause-accepts : goal.returns-clause-accepts
returns-clause-accepts g c = λ _ policy.
    accepts_after c.args.from _ _ _ (looked g (goal.at.returns-clause-accepts g c).After-look policy) (c.in_ok-accept_seen.ensures.accepts refl policy)
