use Rattle.std.proofs.Common.{Option, sym, subst, ◌∙◌}
use Rattle.std.specs.Prelude.{IfSome}
use Rattle.sci_policy.specs.{declared.want.Want.{Want}, Policy.{IsEnabledWant}}
use Rattle.sci_policy.proofs.{AlwaysWants.{may_rest}, Wants.{wanted_enabled}}
use Rattle.sci_policy.proofs.policy.Policy.next.Goals as goal

pub returns-clause-enabled : goal.returns-clause-enabled
returns-clause-enabled c = subst (λ (want : Option Want). IfSome want (IsEnabledWant c.args.node.now)) (sym c.wanted-want.ensures)
    (wanted_enabled c.tick.new.self c.args.node.now)

pub returns-clause-rest : goal.returns-clause-rest
returns-clause-rest c = λ none n is. may_rest c.tick.new.self c.args.node.now n is (sym c.wanted-want.ensures ∙ none)
