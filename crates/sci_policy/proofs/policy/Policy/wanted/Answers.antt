use Rattle.std.proofs.Common.{sym}
use Rattle.sci_policy.proofs.Idle.{rest_wants_none}
use Rattle.sci_policy.proofs.policy.Policy.wanted.Goals as goal

pub returns-then-is_at_rest : goal.returns-then-is_at_rest
returns-then-is_at_rest c = sym (rest_wants_none c.args.self.now c.args.node.now (c.is_at_rest.ensures.rest c.if-is_at_rest.true))
