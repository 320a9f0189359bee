use Rattle.std.proofs.Common.{◌≡◌, ℕ, refl, sym, ap, subst, ◌∙◌, rules}
use Rattle.sci_cache.specs.Cache.{letter_of}
use Rattle.sci_core.specs.Node.{NodeOf}
use Rattle.sci_policy.specs.{Policy.{decided}, Turn.{IsTurnEvent, decided_event}}
use Rattle.sci_turn.specs.{Posts.{node_in}, Moves.{ContinuesTurn, stage}, Whole.{Makes}}
use Rattle.sci_turn.proofs.{AtPosts.{may_take}, TurnEvents.{makes_taken, take_is_own, takes_by}, Moments.{taken_event}}
use Rattle.sci_turn.proofs.{LongerTurns.{goes_made, goes_still, goes_then}, Steps.{none_at, none_itself}, turn.take_seen.Goals.{After-reply}}
use Rattle.sci_turn.proofs.turn.take_seen.Goals as goal

pub take-requires-clause-may : goal.take-requires-clause-may
take-requires-clause-may g c =
    let post = g.P.Post.post c.args.post.now in
    let request = letter_of c.front-request.result.now in
    let decides : decided c.args.policy.now (node_in post) request ≡ c.decide.result =
    ap (λ (m : NodeOf). decided c.args.policy.now m request) (sym c.node.ensures.node) ∙ sym c.decide.ensures in (
      request,
      may_take post c.args.from request c.args.policy.now c.decide.result c.in-Some.event c.node.ensures.post c.requires.from c.front-request.ensures
          c.requires.free decides (c.in-Some.ensures ∙ ap (decided_event c.decide.result c.args.from) c.me-me.ensures),
    )

pub returns-in_err-take-clause-goes : goal.returns-in_err-take-clause-goes
returns-in_err-take-clause-goes g c = goes_still _ _ (none_at c.args.policy.now c.args.progress.now _ _ (c.in_err-take.ensures.cut refl))

-- the request is taken
taken : (g : _) (c : After-reply g) → Makes c.in-Some.event (stage c.args.policy.now (g.P.Post.post c.args.post.now) c.args.progress.now)
    (stage c.served.new.self (g.P.Post.post c.take.new.self) c.count.new.self)
taken g c =
    let request = letter_of c.front-request.result.now in
    let decides = ap (λ (m : NodeOf). decided c.args.policy.now m request) (sym c.node.ensures.node) ∙ sym c.decide.ensures in
    makes_taken c.args.policy.now c.served.new.self _ (g.P.Post.post c.take.new.self) c.me-me.result c.args.from c.decide.result c.in-Some.event request
    c.args.progress.now c.count.new.self c.me-me.ensures c.requires.free decides c.in-Some.ensures
    (c.in_ok-take.ensures.taken request c.front-request.ensures) c.served.ensures c.count.ensures.more

-- and its answer sent
served : (g : _) (c : After-reply g) → ContinuesTurn (stage c.args.policy.now (g.P.Post.post c.args.post.now) c.args.progress.now)
    (stage c.served.new.self (g.P.Post.post c.reply.new.post) c.reply.new.progress)
served g c =
    goes_then _ _ _
    (goes_made c.in-Some.event _ _
    (subst (λ (n : ℕ). IsTurnEvent n c.in-Some.event) c.me-me.ensures
    (take_is_own c.decide.result c.args.from c.me-me.result c.in-Some.event c.in-Some.ensures)) (taken g c) c.count.ensures.counted)
    (c.reply.ensures.goes c.served.new.self)

pub returns-in_err-reply-clause-goes : goal.returns-in_err-reply-clause-goes
returns-in_err-reply-clause-goes g c = served g (goal.at.returns-in_err-reply-clause-goes g c).After-reply

pub returns-clause-goes : goal.returns-clause-goes
returns-clause-goes g c = served g (goal.at.returns-clause-goes g c).After-reply

pub returns-clause-takes : goal.returns-clause-takes
returns-clause-takes g c = λ _. record {
  taken = stage c.served.new.self (g.P.Post.post c.take.new.self) c.count.new.self;
  takes = takes_by c.decide.result c.args.from (g.P.Post.post c.args.post.now).me c.in-Some.event _ _
      (c.in-Some.ensures ∙ ap (decided_event c.decide.result c.args.from) c.me-me.ensures) (taken g (goal.at.returns-clause-takes g c).After-reply);
  replies = c.in_ok-reply.ensures.replies refl c.served.new.self;
}

pub returns-in_default-clause-goes : goal.returns-in_default-clause-goes
returns-in_default-clause-goes g c = search rules

pub returns-in_default-clause-none : goal.returns-in_default-clause-none
returns-in_default-clause-none g c = λ _.
    let post = g.P.Post.post c.args.post.now in
    let request = letter_of c.front-request.result.now in
    let decides : decided c.args.policy.now (node_in post) request ≡ c.decide.result =
    ap (λ (m : NodeOf). decided c.args.policy.now m request) (sym c.node.ensures.node) ∙ sym c.decide.ensures in (
      none_itself (stage c.args.policy.now post c.args.progress.now),
      taken_event c.args.policy.now c.args.from post request c.front-request.ensures c.requires.free
          ∙ (ap (λ d. decided_event d c.args.from post.me) decides
          ∙ (ap (decided_event c.decide.result c.args.from) (sym c.me-me.ensures) ∙ (sym c.event.ensures ∙ c.in_default.is))),
    )
