use Rattle.std.proofs.Common.{rules, ap, ◌∙◌}
use Rattle.sci_policy.specs.{Lines.{can_drain, state_on}, Policy.{PolicyOf, set_of, still_draining}}
use Rattle.sci_policy.proofs.policy.Policy.still_draining.Goals as goal

pub returns : goal.returns
returns c =
    let node = c.args.node.now in
    c.filter.ensures (λ line. can_drain (state_on node line)) (search rules) ∙ ap (λ (policy : PolicyOf). set_of (still_draining policy node)) c.self.view_is
