use Rattle.std.proofs.Common.{Option, refl, ap, ◌∙◌, subst}
use Rattle.std.specs.Prelude.{IfSome}
use Rattle.sci_policy.specs.{Policy.{IsEnabledWant}, declared.want.Want.{Want}}
use Rattle.sci_c_values.specs.Want.{want_struct}
use Rattle.sci_c.proofs.deciding.sci_node_next.Goals as goal

pub returns-clause-done : goal.returns-clause-done
returns-clause-done c = λ ok. record {
  before = c.in-Some.controller.now;
  after = record c.in-Some.controller.now { policy = c.next.new.self };
  was = c.in-Some.ensures.value;
  is_now = refl;
  goes = record {
    want = c.want_out.ensures ∙ ap want_struct c.next.ensures.want;
    enabled = subst (λ (want : Option Want). IfSome want (IsEnabledWant c.in-Some.controller.now.node)) c.next.ensures.want c.next.ensures.enabled;
    node = refl;
    policy = c.next.ensures.then;
  };
}
