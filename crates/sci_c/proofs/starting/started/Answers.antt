use Rattle.std.proofs.Common.{◌+◌, refl, sym, subst, ◌∙◌, arith}
use Rattle.sci_core.specs.{Node.{NodeOf}, Size.{size_of}}
use Rattle.sci_c.proofs.HomesTold.{IsMade, homes_made, made_first, made_next, made_skip}
use Rattle.sci_c.proofs.starting.started.Goals.{in-Some, in_default}
use Rattle.sci_c.proofs.starting.started.Goals as goal

pub loop-line-init : goal.loop-line-init
loop-line-init c =
    made_first c.args.node.now c.in_ok-fresh.fresh c.args.limit c.me-2.result (size_of c.extent-extent.result c.args.limit) c.in_ok-fresh.ensures
    c.me-2.ensures c.extent-extent.ensures.nodes c.extent-extent.ensures.lines c.extent-extent.ensures.slots refl

pub loop-line-preserved : goal.loop-line-preserved
loop-line-preserved c =
    let node = c.args.node.now in
    let line = c.loop-line.line in
    let lines = c.extent-extent.ensures.lines in
    let nodes = c.extent-extent.ensures.nodes in
    let some = c.extent-extent.result.has_node in
    elim c.match-home.branch [
      | in-Some w ↦
          subst (λ (f : NodeOf). IsMade node c.args.limit f (line + 1)) (sym (w.fresh-is ∙ w.tell_state.ensures))
          (made_next node c.loop-line.fresh c.args.limit line w.state.result (omega arith) c.loop-line.invariant (omega arith) w.in-Some.ensures.here.1
          (w.state.ensures ∙ w.in-Some.ensures.here.0))
      | in_default w ↦
          subst (λ (f : NodeOf). IsMade node c.args.limit f (line + 1)) (sym w.fresh-is)
          (made_skip node c.loop-line.fresh c.args.limit line c.loop-line.invariant (w.in_default.ensures.elsewhere refl))
    ]

pub returns-clause-homes : goal.returns-clause-homes
returns-clause-homes c =
    homes_made c.args.node.now c.loop-line.fresh c.args.limit c.loop-line.line c.extent-extent.result.lines c.loop-line.invariant c.loop-line-test.false
    c.extent-extent.ensures.lines
