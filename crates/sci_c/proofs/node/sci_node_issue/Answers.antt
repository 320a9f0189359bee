use Rattle.std.proofs.Common.{refl}
use Rattle.sci_c.proofs.node.sci_node_issue.Goals as goal

pub returns-in-Some-issue-clause-done : goal.returns-in-Some-issue-clause-done
returns-in-Some-issue-clause-done c = λ ok. record {
  before = c.in-Some.controller.now;
  after = record c.in-Some.controller.now { node = c.issue.new.self };
  was = c.in-Some.ensures.value;
  is_now = refl;
  goes = record {
    node = record {
      op = c.in-Some-op_in.said;
      says = c.in-Some-op_in.ensures;
      issued = c.in-Some-issue.ensures.issued;
      serial_is = c.in-Some-issue.ensures.serial;
    };
    policy = refl;
  };
}
