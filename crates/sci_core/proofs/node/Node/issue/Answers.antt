-- An operation in range is pending.
use Rattle.std.proofs.Common.{◌≡◌, true, ap, sym, ◌∙◌}
use Rattle.sci_core.specs.{Node.{NodeOf, may_issue}, contracts.node.Node.{the_view}}
use Rattle.sci_core.proofs.Step.Nodes.{node_with_issue}
use Rattle.sci_core.proofs.node.Node.issue.Goals as goal

pub invariant_of-self : goal.invariant_of-self
invariant_of-self c =
    let node = the_view c.self.inside in
    let may : may_issue node c.args.op ≡ true =
    ap (λ (n : NodeOf). may_issue n c.args.op) c.self.view_is ∙ (sym c.may_issue.ensures.rule ∙ c.if-not-may_issue.false) in
    (c.self.invariant.0, rw c.put.ensures (node_with_issue node c.args.op may c.self.invariant.1))
