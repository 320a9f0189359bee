use Rattle.std.proofs.Common.{◌≡◌, ℕ, refl, sym, subst, rules}
use Rattle.sci_core.specs.Core.{Core}
use Rattle.sci_turn.specs.{Posts.{IsPost, post_at}, Whole.{IsWholeTurn}}
use Rattle.sci_turn.proofs.{AlonePosts.{alone_still}, Idling.{may_idle}, Working.{post_after}}
use Rattle.sci_locked.proofs.turn.turn_on.Goals as goal

pub returns-clause-turn : goal.returns-clause-turn
returns-clause-turn c = search rules

pub returns-clause-idle : goal.returns-clause-idle
returns-clause-idle c = search rules

pub returns-clause-whole : goal.returns-clause-whole
returns-clause-whole c =
    let post = c.take_turn.new.post in
    let whole : ℕ → Core → Type 0 =
    λ n core. IsWholeTurn c.args.policy.now (post_at c.args.node c.args.machine.now) c.take_turn.new.policy (post_at n core) c.take_turn.new.progress in
    let there : (core : Core) → core ≡ post.machine.now → whole c.args.node core =
    λ core is. subst (whole c.args.node) (sym is)
    (subst (λ (n : ℕ). whole n post.machine.now) c.take_turn.ensures.turn.moved.same.me (c.in_ok-take_turn.ensures.whole refl)) in
    there _ (search rules)

pub returns-clause-same : goal.returns-clause-same
returns-clause-same c = λ idle. alone_still c.args.node c.args.node c.args.machine.now _ (returns-clause-idle c idle).still

pub returns-clause-rest : goal.returns-clause-rest
returns-clause-rest c = λ idle.
    let here : IsPost (post_at c.args.node c.args.machine.now) = record { reached = c.extent-extent.ensures.reached; some = c.requires } in
    let turn = returns-clause-turn c in
    may_idle _ _ _ _ (post_after _ _ _ _ _ here turn) (returns-clause-idle c idle)
