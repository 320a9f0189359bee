use Rattle.std.proofs.Common.{◌≡◌, Option, None, Some, refl, sym, ap, subst, ◌∙◌, arith}
use Rattle.std.specs.Prelude.{IfSome}
use Rattle.sci_core.specs.Node.{NodeOf}
use Rattle.sci_policy.specs.declared.{progress.Progress.{Progress}, want.Want.{Want, TheVariants.{Ask, Perform}}}
use Rattle.sci_policy.specs.Policy.{PolicyOf, next_policy, next_wanted}
use Rattle.sci_turn.specs.{Posts.{IsStill, PostOf, node_in}, Moves.{stage}, Whole.{Asks, AsksNoMore, EndsAt, reported}}
use Rattle.sci_turn.proofs.{TurnEvents.{makes_asked}, Stills.{still_itself}, Steps.{made_all, made_last, made_more}}
use Rattle.sci_turn.proofs.LongerTurns.{ends_asked, ends_ready, goes_made, goes_still, goes_then}
use Rattle.sci_words.specs.declared.event.Event.TheVariants as event
use Rattle.sci_turn.proofs.turn.ask_some.Goals as goal

-- the policy was asked about the node as it is
asked_here : (policy after : PolicyOf) (node here : NodeOf) → after ≡ next_policy policy node → node ≡ here → after ≡ next_policy policy here
asked_here policy after node here then_ is = then_ ∙ ap (next_policy policy) is

wants_here : (policy : PolicyOf) (node here : NodeOf) (want found : Option Want) → found ≡ next_wanted policy node → node ≡ here → found ≡ want
    → next_wanted policy here ≡ want
wants_here policy node here want found wanted is same = ap (next_wanted policy) (sym is) ∙ (sym wanted ∙ same)

-- what was wanted ends the turn
no_more : (before after : PolicyOf) (old new : PostOf) (told : Progress) (want : Option Want) → IsStill old new → next_wanted before (node_in new) ≡ want
    → after ≡ next_policy before (node_in new) → IfSome want (EndsAt new) → AsksNoMore (stage before old told) (stage after new (reported told want))
no_more before after old new told want still wanted noted ends = grind arith

pub ask-requires : goal.ask-requires
ask-requires g c = grind arith

pub loop-cell-preserved : goal.loop-cell-preserved
loop-cell-preserved g c =
    let old = g.P.Post.post c.loop-cell.post in
    let new = g.P.Post.post c.ask.new.post in
    let line = c.in-Some-Ask.line in
    let kind = c.in-Some-Ask.kind in
    let asked = c.in_ok-ask-in-Some-Ask.ensures.asked c.if-not-branch.false in
    let wanted : next_wanted c.loop-cell.policy (node_in old) ≡ Some (Ask line kind) =
    wants_here c.loop-cell.policy c.node.result.now (node_in old) (Some (Ask line kind)) _ c.in-Some-Ask.ensures.want c.node.ensures.node
    (ap Some c.in-Some-Ask.field-0-is) in
    let noted = asked_here c.loop-cell.policy c.next.new.self c.node.result.now (node_in old) c.next.ensures.then c.node.ensures.node in
    let makes = makes_asked c.loop-cell.policy c.next.new.self old new line kind c.loop-cell.progress c.ask.new.progress wanted noted asked in
    record {
      goes = goes_then _ _ _ c.loop-cell.invariant.goes
          (goes_made (event.Ask old.me line kind) _ _ (record { own = refl; kind = refl }) makes asked.counts);
      stays = g.met.P.Post.stays_through c.args.post.now c.loop-cell.post c.ask.new.post c.loop-cell.invariant.stays c.ask.ensures.stays;
      made = made_more c.loop-cell._cell Asks AsksNoMore _ _ _ c.loop-cell-test.true c.loop-cell.invariant.made (line, kind, makes);
    }

-- ---- the turn ends

pub returns-in_err-ask-in-Some-Ask-clause-turn : goal.returns-in_err-ask-in-Some-Ask-clause-turn
returns-in_err-ask-in-Some-Ask-clause-turn g c = λ before start came.
    let old = g.P.Post.post c.loop-cell.post in
    let new = g.P.Post.post c.ask.new.post in
    let cut = c.in_err-ask-in-Some-Ask.ensures.cut refl in
    let now = stage c.loop-cell.policy new c.ask.new.progress in
    ends_asked before start c.loop-cell.policy c.next.new.self new c.ask.new.progress
    (asked_here c.loop-cell.policy c.next.new.self c.node.result.now (node_in new) c.next.ensures.then (c.node.ensures.node ∙ sym cut.0.node))
    ((goes_still _ now (record { still = cut.0; policy = refl; report = cut.1 })).turn before start (c.loop-cell.invariant.goes.turn before start came))

pub returns-in-Some-Perform-clause-turn : goal.returns-in-Some-Perform-clause-turn
returns-in-Some-Perform-clause-turn g c = λ before start came.
    let here = g.P.Post.post c.loop-cell.post in
    ends_ready before start c.next.new.self here c.loop-cell.progress _ refl refl refl refl
    (ends_asked before start c.loop-cell.policy c.next.new.self here c.loop-cell.progress
    (asked_here c.loop-cell.policy c.next.new.self c.node.result.now (node_in here) c.next.ensures.then c.node.ensures.node)
    (c.loop-cell.invariant.goes.turn before start came))

pub returns-then-not-branch-clause-turn : goal.returns-then-not-branch-clause-turn
returns-then-not-branch-clause-turn g c = λ before start came.
    let new = g.P.Post.post c.ask.new.post in
    let full = c.in_ok-ask-in-Some-Ask.ensures.full c.if-not-branch.true in
    let now = stage c.loop-cell.policy new c.ask.new.progress in
    ends_asked before start c.loop-cell.policy c.next.new.self new c.ask.new.progress
    (asked_here c.loop-cell.policy c.next.new.self c.node.result.now (node_in new) c.next.ensures.then (c.node.ensures.node ∙ sym full.still.node))
    ((goes_still _ now (record { still = full.still; policy = refl; report = full.same })).turn before start
    (c.loop-cell.invariant.goes.turn before start came))

pub returns-in-None-clause-turn : goal.returns-in-None-clause-turn
returns-in-None-clause-turn g c = λ before start came.
    let here = g.P.Post.post c.loop-cell.post in
    ends_asked before start c.loop-cell.policy c.next.new.self here c.loop-cell.progress
    (asked_here c.loop-cell.policy c.next.new.self c.node.result.now (node_in here) c.next.ensures.then c.node.ensures.node)
    (c.loop-cell.invariant.goes.turn before start came)

-- ---- how far it goes

pub returns-then-not-branch-clause-asks : goal.returns-then-not-branch-clause-asks
returns-then-not-branch-clause-asks g c = λ _.
    let policy = c.loop-cell.policy in
    let old = g.P.Post.post c.loop-cell.post in
    let new = g.P.Post.post c.ask.new.post in
    let want = Some (Ask c.in-Some-Ask.line c.in-Some-Ask.kind) in
    let full = c.in_ok-ask-in-Some-Ask.ensures.full c.if-not-branch.true in
    let node = c.node.ensures.node ∙ sym full.still.node in
    let wanted : next_wanted policy (node_in new) ≡ want =
    wants_here policy c.node.result.now (node_in new) want _ c.in-Some-Ask.ensures.want node (ap Some c.in-Some-Ask.field-0-is) in
    let noted = asked_here policy c.next.new.self c.node.result.now (node_in new) c.next.ensures.then node in
    let ends = no_more policy c.next.new.self old new c.loop-cell.progress want full.still wanted noted full.full in
    made_last c.loop-cell._cell Asks AsksNoMore _ _ _ c.loop-cell-test.true c.loop-cell.invariant.made
    (subst (λ (p : Progress). AsksNoMore (stage policy old c.loop-cell.progress) (stage c.next.new.self new p)) (sym full.same) ends)

pub returns-in-Some-Perform-clause-asks : goal.returns-in-Some-Perform-clause-asks
returns-in-Some-Perform-clause-asks g c = λ _.
    let policy = c.loop-cell.policy in
    let here = g.P.Post.post c.loop-cell.post in
    let want = Some (Perform c.in-Some-Perform.line) in
    let wanted : next_wanted policy (node_in here) ≡ want =
    wants_here policy c.node.result.now (node_in here) want _ c.in-Some-Perform.ensures.want c.node.ensures.node (ap Some c.in-Some-Perform.field-0-is) in
    let noted = asked_here policy c.next.new.self c.node.result.now (node_in here) c.next.ensures.then c.node.ensures.node in
    made_last c.loop-cell._cell Asks AsksNoMore _ _ _ c.loop-cell-test.true c.loop-cell.invariant.made
    (no_more policy c.next.new.self here here c.loop-cell.progress want (still_itself here) wanted noted tt)

pub returns-in-None-clause-asks : goal.returns-in-None-clause-asks
returns-in-None-clause-asks g c = λ _.
    let policy = c.loop-cell.policy in
    let here = g.P.Post.post c.loop-cell.post in
    let wanted : next_wanted policy (node_in here) ≡ None =
    wants_here policy c.node.result.now (node_in here) None _ c.in-None.ensures.want c.node.ensures.node refl in
    let noted = asked_here policy c.next.new.self c.node.result.now (node_in here) c.next.ensures.then c.node.ensures.node in
    made_last c.loop-cell._cell Asks AsksNoMore _ _ _ c.loop-cell-test.true c.loop-cell.invariant.made
    (no_more policy c.next.new.self here here c.loop-cell.progress None (still_itself here) wanted noted tt)

pub returns-clause-asks : goal.returns-clause-asks
returns-clause-asks g c = λ _. made_all c.loop-cell._cell Asks AsksNoMore _ _ c.loop-cell-test.false c.loop-cell.invariant.made

-- ---- what stays

pub returns-in_err-ask-in-Some-Ask-clause-stays : goal.returns-in_err-ask-in-Some-Ask-clause-stays
returns-in_err-ask-in-Some-Ask-clause-stays g c =
    g.met.P.Post.stays_through c.args.post.now c.loop-cell.post c.ask.new.post c.loop-cell.invariant.stays c.ask.ensures.stays

pub returns-then-not-branch-clause-stays : goal.returns-then-not-branch-clause-stays
returns-then-not-branch-clause-stays g c =
    g.met.P.Post.stays_through c.args.post.now c.loop-cell.post c.ask.new.post c.loop-cell.invariant.stays c.ask.ensures.stays
