use Rattle.std.proofs.Common.{refl}
use Rattle.sci_c.proofs.node.sci_node_perform.Goals as goal

pub returns-in-Some-perform-clause-done : goal.returns-in-Some-perform-clause-done
returns-in-Some-perform-clause-done c = λ ok. record {
  before = c.in-Some.controller.now;
  after = record c.in-Some.controller.now { node = c.perform.new.self };
  was = c.in-Some.ensures.value;
  is_now = refl;
  goes = record {
    node = record {
      entry = c.in-Some-perform.done;
      performed = c.in-Some-perform.ensures.performed;
      struct_is = c.entry_out.ensures;
    };
    policy = refl;
  };
}
