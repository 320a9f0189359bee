-- What the calls for a node's policy answer.
use Rattle.std.specs.Prelude.{◌≡◌, IfSome}
use Rattle.sci_policy.specs.Policy.{IsEnabledWant, next_policy, next_wanted, turned}
use Rattle.sci_c_values.specs.{declared.want.SciWant.{SciWant}, Want.{want_struct}}
use Rattle.sci_c.specs.declared.controller.Controller.{Controller}

-- a turn more is counted, and the node stays
pub record HasBegunTurn (before after : Controller) : Type 0 where
  pub node : after.node ≡ before.node
  pub policy : after.policy ≡ turned before.policy

-- what the policy wants next, which is enabled; the node stays
pub record IsNext (c : SciWant) (before after : Controller) : Type 0 where
  pub want : c ≡ want_struct (next_wanted before.policy before.node)
  pub enabled : IfSome (next_wanted before.policy before.node) (IsEnabledWant before.node)
  pub node : after.node ≡ before.node
  pub policy : after.policy ≡ next_policy before.policy before.node
