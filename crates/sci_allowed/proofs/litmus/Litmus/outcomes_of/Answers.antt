use Rattle.std.proofs.{Common.{◌≡◌, ◌+◌, ℕ, List, length, take, sym, ap, subst, ◌∙◌, arith}, Math.Seq.{take-length}}
use Rattle.sci_orders.specs.declared.standing.Standing.{Standing}
use Rattle.sci_allowed.{proofs.Litmuses.{seen_more}, specs.{Allowed.{AreSeenAt}}}
use Rattle.sci_allowed.proofs.litmus.Litmus.outcomes_of.Goals as goal

pub outcome_of-requires-clause-nodes : goal.outcome_of-requires-clause-nodes
outcome_of-requires-clause-nodes c = grind arith

pub loop-standing-preserved : goal.loop-standing-preserved
loop-standing-preserved c =
    subst (AreSeenAt c.args.self.now.script (take (c.loop-standing.standing-index + 1) c.args.standings.now)) (sym c.in_ok-push.ensures.items)
    (seen_more c.args.self.now.script c.args.standings.now c.loop-standing.outcomes.items c.loop-standing.standing-index c.standing-item.result
    c.in_ok-outcome_of.field-0 c.loop-standing-test.true c.standing-item.is c.loop-standing.invariant c.in_ok-outcome_of.ensures)

pub returns : goal.returns
returns c =
    let whole : c.loop-standing.standing-index ≡ length c.args.standings.now = omega arith in
    subst (λ (ss : List Standing). AreSeenAt c.args.self.now.script ss c.loop-standing.outcomes.items)
    (ap (λ (k : ℕ). take k c.args.standings.now) whole ∙ take-length c.args.standings.now) c.loop-standing.invariant
