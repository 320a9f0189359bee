use Rattle.std.proofs.Common.{refl}
use Rattle.sci_c.proofs.deciding.sci_node_begin_turn.Goals as goal

pub returns-clause-done : goal.returns-clause-done
returns-clause-done c = λ ok. record {
  before = c.in-Some.controller.now;
  after = record c.in-Some.controller.now { policy = c.begin_turn.new.self };
  was = c.in-Some.ensures.value;
  is_now = refl;
  goes = record { node = refl; policy = c.begin_turn.ensures };
}
