use Rattle.std.proofs.Common.{◌≡◌, ◌≤◌, [], None, refl, sym, ap, subst, ◌∙◌, arith}
use Rattle.sci_policy.specs.{declared.progress.Progress.{Progress}, Policy.{PolicyOf, turned}}
use Rattle.sci_policy.specs.{Turn.{Counts, MayPerform}, Worker.{HasSameWork, IsNodeTurn}}
use Rattle.sci_policy.proofs.Telling.{idle_tells}
use Rattle.sci_turn.specs.{Posts.{IsPost, PostOf, node_in, nodes_in}, Moves.{ContinuesTurn, HasEnded, HasMoved, IsTurn, Stage, stage}}
use Rattle.sci_turn.specs.Whole.{Replies, no_progress}
use Rattle.sci_turn.proofs.{Idling.{may_idle}, LongerTurns.{ends_there, goes_then, turn_begins}, Wholes.{idles, nothing_yet}}
use Rattle.sci_turn.proofs.Working.{node_turn, post_after, turn_work}
use Rattle.sci_turn.proofs.turn.take_turn.Goals.{After-reply, After-accept_all, After-take_all}
use Rattle.sci_turn.proofs.turn.take_turn.Goals as goal

-- what a turn that came so far is
record Came (before : PolicyOf) (old : PostOf) (after : PolicyOf) (new : PostOf) (tells : Progress) : Type 0 where
  turn : IsTurn before old after new tells
  ready : MayPerform (node_in new) tells.ready
  node : IsNodeTurn (node_in old) (node_in new) tells
  work : HasSameWork (node_in old) (node_in new)

came : (before begun after : PolicyOf) (old new : PostOf) (told tells : Progress) → begun ≡ turned before → Counts [] told → told.ready ≡ None → IsPost old
    → ContinuesTurn (stage begun old told) (stage after new tells) → Came before old after new tells
came before begun after old new told tells begins nothing none here goes =
    let turn : IsTurn before old after new tells =
    subst (λ (p : PolicyOf). HasEnded p old after new tells) begins
    (ends_there begun old after new tells (goes.turn begun old (turn_begins begun old told nothing))) in
    let ready : MayPerform (node_in new) tells.ready = subst (MayPerform (node_in new)) (sym (goes.ready ∙ none)) tt in
    record {
      turn = turn;
      ready = ready;
      node = node_turn before old after new tells here turn ready;
      work = turn_work before old after new tells here turn ready;
    }

replied : (g : _) (c : After-reply g)
    → Came c.args.policy.now (g.P.Post.post c.args.post.now) c.begin_turn.new.self (g.P.Post.post c.reply.new.post) c.reply.new.progress
replied g c = came _ c.begin_turn.new.self _ _ _ c.args.progress.now _ c.begin_turn.ensures c.requires.nothing c.requires.ready c.node-here.ensures.post
    (c.reply.ensures.goes c.begin_turn.new.self)

accepted : (g : _) (c : After-accept_all g)
    → Came c.args.policy.now (g.P.Post.post c.args.post.now) c.begin_turn.new.self (g.P.Post.post c.accept_all.new.post) c.accept_all.new.progress
accepted g c = let p = c.begin_turn.new.self in
    came _ p _ _ _ c.args.progress.now _ c.begin_turn.ensures c.requires.nothing c.requires.ready c.node-here.ensures.post
    (goes_then _ _ _ (c.reply.ensures.goes p) (c.accept_all.ensures.goes p))

-- the steps before the policy is asked
taken_goes : (g : _) (c : After-take_all g) → ContinuesTurn (stage c.begin_turn.new.self (g.P.Post.post c.args.post.now) c.args.progress.now)
    (stage c.take_all.new.policy (g.P.Post.post c.take_all.new.post) c.take_all.new.progress)
taken_goes g c = let p = c.begin_turn.new.self in
    goes_then _ _ _ (goes_then _ _ _ (c.reply.ensures.goes p) (c.accept_all.ensures.goes p)) c.take_all.ensures.goes

taken_moved : (g : _) (c : After-take_all g) → HasMoved c.begin_turn.new.self (g.P.Post.post c.args.post.now) c.take_all.new.policy
    (g.P.Post.post c.take_all.new.post) c.take_all.new.progress
taken_moved g c = (taken_goes g c).turn _ _ (turn_begins c.begin_turn.new.self (g.P.Post.post c.args.post.now) c.args.progress.now c.requires.nothing)

taken : (g : _) (c : After-take_all g)
    → Came c.args.policy.now (g.P.Post.post c.args.post.now) c.take_all.new.policy (g.P.Post.post c.take_all.new.post) c.take_all.new.progress
taken g c = came _ c.begin_turn.new.self _ _ _ c.args.progress.now _ c.begin_turn.ensures c.requires.nothing c.requires.ready c.node-here.ensures.post
    (taken_goes g c)

pub returns-in_err-reply-clause-turn : goal.returns-in_err-reply-clause-turn
returns-in_err-reply-clause-turn g c = (replied g (goal.at.returns-in_err-reply-clause-turn g c).After-reply).turn

pub returns-in_err-reply-clause-ready : goal.returns-in_err-reply-clause-ready
returns-in_err-reply-clause-ready g c = (replied g (goal.at.returns-in_err-reply-clause-ready g c).After-reply).ready

pub returns-in_err-reply-clause-node : goal.returns-in_err-reply-clause-node
returns-in_err-reply-clause-node g c = (replied g (goal.at.returns-in_err-reply-clause-node g c).After-reply).node

pub returns-in_err-reply-clause-work : goal.returns-in_err-reply-clause-work
returns-in_err-reply-clause-work g c = (replied g (goal.at.returns-in_err-reply-clause-work g c).After-reply).work

pub returns-in_err-accept_all-clause-turn : goal.returns-in_err-accept_all-clause-turn
returns-in_err-accept_all-clause-turn g c = (accepted g (goal.at.returns-in_err-accept_all-clause-turn g c).After-accept_all).turn

pub returns-in_err-accept_all-clause-ready : goal.returns-in_err-accept_all-clause-ready
returns-in_err-accept_all-clause-ready g c = (accepted g (goal.at.returns-in_err-accept_all-clause-ready g c).After-accept_all).ready

pub returns-in_err-accept_all-clause-node : goal.returns-in_err-accept_all-clause-node
returns-in_err-accept_all-clause-node g c = (accepted g (goal.at.returns-in_err-accept_all-clause-node g c).After-accept_all).node

pub returns-in_err-accept_all-clause-work : goal.returns-in_err-accept_all-clause-work
returns-in_err-accept_all-clause-work g c = (accepted g (goal.at.returns-in_err-accept_all-clause-work g c).After-accept_all).work

pub returns-in_err-take_all-clause-turn : goal.returns-in_err-take_all-clause-turn
returns-in_err-take_all-clause-turn g c = (taken g (goal.at.returns-in_err-take_all-clause-turn g c).After-take_all).turn

pub returns-in_err-take_all-clause-ready : goal.returns-in_err-take_all-clause-ready
returns-in_err-take_all-clause-ready g c = (taken g (goal.at.returns-in_err-take_all-clause-ready g c).After-take_all).ready

pub returns-in_err-take_all-clause-node : goal.returns-in_err-take_all-clause-node
returns-in_err-take_all-clause-node g c = (taken g (goal.at.returns-in_err-take_all-clause-node g c).After-take_all).node

pub returns-in_err-take_all-clause-work : goal.returns-in_err-take_all-clause-work
returns-in_err-take_all-clause-work g c = (taken g (goal.at.returns-in_err-take_all-clause-work g c).After-take_all).work

pub ask_some-requires : goal.ask_some-requires
ask_some-requires g c = record { ready = (taken_goes g (goal.at.ask_some-requires g c).After-take_all).ready ∙ c.requires.ready }

pub returns-clause-turn : goal.returns-clause-turn
returns-clause-turn g c =
    subst (λ (p : PolicyOf). HasEnded p (g.P.Post.post c.args.post.now) c.ask_some.new.policy (g.P.Post.post c.ask_some.new.post) c.ask_some.new.progress)
    c.begin_turn.ensures (c.ask_some.ensures.turn _ _ (taken_moved g (goal.at.returns-clause-turn g c).After-take_all))

pub returns-clause-whole : goal.returns-clause-whole
returns-clause-whole g c = λ ok.
    let start = stage c.begin_turn.new.self (g.P.Post.post c.args.post.now) c.args.progress.now in
    let replied = stage c.begin_turn.new.self (g.P.Post.post c.reply.new.post) c.reply.new.progress in
    let begins : start ≡ stage (turned c.args.policy.now) (g.P.Post.post c.args.post.now) no_progress =
    ap (λ (p : PolicyOf). stage p (g.P.Post.post c.args.post.now) c.args.progress.now) c.begin_turn.ensures
    ∙ ap (stage (turned c.args.policy.now) (g.P.Post.post c.args.post.now)) (nothing_yet c.args.progress.now c.requires.nothing c.requires.ready) in
    record {
      replied = replied;
      accepted = stage c.begin_turn.new.self (g.P.Post.post c.accept_all.new.post) c.accept_all.new.progress;
      taken = stage c.take_all.new.policy (g.P.Post.post c.take_all.new.post) c.take_all.new.progress;
      replies = subst (λ (s : Stage). Replies s replied) begins (c.in_ok-reply.ensures.replies refl c.begin_turn.new.self);
      accepts = c.in_ok-accept_all.ensures.accepts refl c.begin_turn.new.self;
      takes = c.in_ok-take_all.ensures.takes refl;
      asks = c.ask_some.ensures.asks ok;
    }

pub returns-clause-idle : goal.returns-clause-idle
returns-clause-idle g c = λ ok idle.
    let tells = idle_tells c.ask_some.new.progress idle in
    let some : 1 ≤ nodes_in (g.P.Post.post c.args.post.now) = (let here = c.node-here.ensures.post.some in omega arith) in
    idles c.args.policy.now (g.P.Post.post c.args.post.now) c.ask_some.new.policy (g.P.Post.post c.ask_some.new.post) c.ask_some.new.progress some
    (returns-clause-whole g c ok) tells.0 tells.1

pub returns-clause-rest : goal.returns-clause-rest
returns-clause-rest g c = λ ok idle.
    may_idle c.args.policy.now c.ask_some.new.policy (g.P.Post.post c.args.post.now) (g.P.Post.post c.ask_some.new.post)
    (post_after c.args.policy.now (g.P.Post.post c.args.post.now) c.ask_some.new.policy (g.P.Post.post c.ask_some.new.post) c.ask_some.new.progress
    c.node-here.ensures.post (returns-clause-turn g c)) (returns-clause-idle g c ok idle)

-- ---- the node

pub returns-clause-node : goal.returns-clause-node
returns-clause-node g c = node_turn c.args.policy.now (g.P.Post.post c.args.post.now) c.ask_some.new.policy (g.P.Post.post c.ask_some.new.post)
    c.ask_some.new.progress c.node-here.ensures.post (returns-clause-turn g c) c.ask_some.ensures.ready

pub returns-clause-work : goal.returns-clause-work
returns-clause-work g c = turn_work c.args.policy.now (g.P.Post.post c.args.post.now) c.ask_some.new.policy (g.P.Post.post c.ask_some.new.post)
    c.ask_some.new.progress c.node-here.ensures.post (returns-clause-turn g c) c.ask_some.ensures.ready

-- ---- what stays

pub returns-clause-stays : goal.returns-clause-stays
returns-clause-stays g c =
    let through = g.met.P.Post.stays_through in
    through c.args.post.now c.take_all.new.post c.ask_some.new.post
    (through c.args.post.now c.accept_all.new.post c.take_all.new.post
    (through c.args.post.now c.reply.new.post c.accept_all.new.post c.reply.ensures.stays c.accept_all.ensures.stays) c.take_all.ensures.stays)
    c.ask_some.ensures.stays
