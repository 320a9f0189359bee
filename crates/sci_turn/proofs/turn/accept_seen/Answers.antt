use Rattle.std.proofs.Common.{refl, sym, subst, arith}
use Rattle.sci_cache.specs.Cache.{letter_of}
use Rattle.sci_core.specs.declared.lane.LaneKind.TheVariants.{Answers}
use Rattle.sci_policy.specs.Policy.{PolicyOf}
use Rattle.sci_turn.specs.{Posts.{MayTake}, Moves.{stage}, Whole.{Makes}}
use Rattle.sci_turn.proofs.{AtPosts.{may_accept}, LongerTurns.{goes_made, goes_still}, Steps.{none_at}, turn.accept_seen.Goals.{After-count}}
use Rattle.sci_words.specs.declared.event.Event.TheVariants as event
use Rattle.sci_turn.proofs.turn.accept_seen.Goals as goal

pub take-requires-clause-may : goal.take-requires-clause-may
take-requires-clause-may g c =
    let post = g.P.Post.post c.args.post.now in
    let answer = letter_of c.front-answer.result.now in (
      answer,
      subst (λ n. MayTake post Answers c.args.from answer (event.Accept c.args.from n)) (sym c.me-node.ensures)
          (may_accept post c.args.from answer c.node-here.ensures.post c.requires.from c.front-answer.ensures),
    )

pub returns-in_err-take-clause-goes : goal.returns-in_err-take-clause-goes
returns-in_err-take-clause-goes g c = λ policy. goes_still _ _ (none_at policy c.args.progress.now _ _ (c.in_err-take.ensures.cut refl))

-- the answer is accepted
accepted : (g : _) (c : After-count g) (policy : PolicyOf) → Makes (event.Accept c.args.from c.me-node.result)
    (stage policy (g.P.Post.post c.args.post.now) c.args.progress.now) (stage policy (g.P.Post.post c.take.new.self) c.count.new.self)
accepted g c policy = record {
  made = (c.in_ok-take.ensures.taken (letter_of c.front-answer.result.now) c.front-answer.ensures).made;
  decides = refl;
  counted = c.count.ensures.more;
}

pub returns-clause-goes : goal.returns-clause-goes
returns-clause-goes g c = λ policy.
    goes_made (event.Accept c.args.from c.me-node.result) _ _ (record { own = c.me-node.ensures; kind = refl })
    (accepted g (goal.at.returns-clause-goes g c).After-count policy) c.count.ensures.counted

pub returns-clause-accepts : goal.returns-clause-accepts
returns-clause-accepts g c = grind (arith, accepted)
