use Rattle.std.proofs.Common.{◌≡◌, Bool, true, false, arith}
use Rattle.sci_turn.specs.{Moves.{stage}, Whole.{FindsNoRequest, MakesNone, Takes}}
use Rattle.sci_turn.proofs.{Moments.{if_ok_map, none_came}, LongerTurns.{goes_still, goes_then}, Steps.{none_at, none_then, takes_after}}
use Rattle.sci_turn.proofs.turn.take.Goals.{After-look}
use Rattle.sci_turn.proofs.turn.take.Goals as goal

-- a look makes no event
looked : (g : _) (c : After-look g) → MakesNone (stage c.args.policy.now (g.P.Post.post c.args.post.now) c.args.progress.now)
    (stage c.args.policy.now (g.P.Post.post c.look.new.self) c.args.progress.now)
looked g c = none_at c.args.policy.now c.args.progress.now _ _ c.look.ensures.still

pub returns-in_err-look-clause-goes : goal.returns-in_err-look-clause-goes
returns-in_err-look-clause-goes g c = goes_still _ _ (looked g (goal.at.returns-in_err-look-clause-goes g c).After-look)

pub returns-then-not-branch-clause-goes : goal.returns-then-not-branch-clause-goes
returns-then-not-branch-clause-goes g c = goes_still _ _ (looked g (goal.at.returns-then-not-branch-clause-goes g c).After-look)

pub returns-then-not-branch-clause-none : goal.returns-then-not-branch-clause-none
returns-then-not-branch-clause-none g c = grind (arith, looked, none_came)

pub returns-clause-goes : goal.returns-clause-goes
returns-clause-goes g c = goes_then _ _ _ (goes_still _ _ (looked g (goal.at.returns-clause-goes g c).After-look)) c.take_seen.ensures.goes

pub returns-clause-takes : goal.returns-clause-takes
returns-clause-takes g c =
    let old = stage c.args.policy.now (g.P.Post.post c.args.post.now) c.args.progress.now in
    let mid = stage c.args.policy.now (g.P.Post.post c.look.new.self) c.args.progress.now in
    let new = stage c.take_seen.new.policy (g.P.Post.post c.take_seen.new.post) c.take_seen.new.progress in
    let still = looked g (goal.at.returns-clause-takes g c).After-look in
    if_ok_map (λ (taken : Bool). taken ≡ true → Takes c.args.from mid new) (λ (taken : Bool). taken ≡ true → Takes c.args.from old new) c.take_seen.result
    (λ taken takes is. takes_after c.args.from old mid new still (takes is)) c.take_seen.ensures.takes

pub returns-clause-none : goal.returns-clause-none
returns-clause-none g c =
    let old = stage c.args.policy.now (g.P.Post.post c.args.post.now) c.args.progress.now in
    let mid = stage c.args.policy.now (g.P.Post.post c.look.new.self) c.args.progress.now in
    let new = stage c.take_seen.new.policy (g.P.Post.post c.take_seen.new.post) c.take_seen.new.progress in
    let still = looked g (goal.at.returns-clause-none g c).After-look in
    if_ok_map (λ (taken : Bool). taken ≡ false → FindsNoRequest c.args.from mid new) (λ (taken : Bool). taken ≡ false
    → FindsNoRequest c.args.from old new) c.take_seen.result (λ taken none is. (
      none_then old mid new still (none is).0,
      (none is).1,
    )) c.take_seen.ensures.none
