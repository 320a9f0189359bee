use Rattle.std.proofs.Common.{◌≡◌, Some, refl, ap, sym, subst, ◌∙◌, arith}
use Rattle.sci_cache.specs.Cache.{letter_of}
use Rattle.sci_core.specs.{declared.lane.LaneKind.TheVariants.{Answers}, Node.{NodeOf}}
use Rattle.sci_policy.specs.Policy.{PolicyOf}
use Rattle.sci_turn.specs.{Posts.{MaySend, node_in}, Moves.{stage}, Whole.{Makes}}
use Rattle.sci_turn.proofs.{AtPosts.{may_reply}, LongerTurns.{goes_made, goes_still}, Steps.{none_at}, turn.reply.Goals.{After-count}}
use Rattle.sci_words.specs.declared.event.Event.TheVariants as event
use Rattle.sci_turn.proofs.turn.reply.Goals as goal

pub send-requires : goal.send-requires
send-requires g c =
    let post = g.P.Post.post c.args.post.now in
    let answer = letter_of c.in-Some.answer.now in
    let waits : (node_in post).waiting ≡ Some answer = ap (λ (m : NodeOf). m.waiting) (sym c.node.ensures.node) ∙ sym c.in-Some.ensures in
    subst (λ n. MaySend post Answers answer (event.Reply n)) (sym c.me-node.ensures) (may_reply post answer c.node.ensures.post waits)

pub returns-in_err-sent-clause-goes : goal.returns-in_err-sent-clause-goes
returns-in_err-sent-clause-goes g c = λ policy. goes_still _ _ (none_at policy c.args.progress.now _ _ (c.in_err-sent.ensures.cut refl))

pub returns-then-not-sent-clause-goes : goal.returns-then-not-sent-clause-goes
returns-then-not-sent-clause-goes g c = λ policy. goes_still _ _ (none_at policy c.args.progress.now _ _ (c.in_ok-sent.ensures.still c.if-not-sent.true))

-- the answer goes out
replied : (g : _) (c : After-count g) (policy : PolicyOf) → Makes (event.Reply c.me-node.result)
    (stage policy (g.P.Post.post c.args.post.now) c.args.progress.now) (stage policy (g.P.Post.post c.send.new.self) c.count.new.self)
replied g c policy = record { made = c.in_ok-sent.ensures.sent c.if-not-sent.false; decides = refl; counted = c.count.ensures.more }

pub returns-clause-goes : goal.returns-clause-goes
returns-clause-goes g c = λ policy.
    goes_made (event.Reply c.me-node.result) _ _ (record { own = c.me-node.ensures; kind = refl })
    (replied g (goal.at.returns-clause-goes g c).After-count policy) c.count.ensures.counted

pub returns-clause-replies : goal.returns-clause-replies
returns-clause-replies g c = grind (arith, replied)
