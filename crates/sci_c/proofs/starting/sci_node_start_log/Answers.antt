use Rattle.std.proofs.Common.{rules, refl}
use Rattle.sci_c.proofs.starting.sci_node_start_log.Goals as goal

pub returns-in-Ok-clause-done : goal.returns-in-Ok-clause-done
returns-in-Ok-clause-done c = λ ok. record {
  before = c.in-Some.controller.now;
  after = record { node = c.in-Ok.node; policy = c.in-Some.controller.now.policy };
  was = c.in-Some.ensures.value;
  is_now = refl;
  goes = record {
    rest = c.is_at_rest.ensures.rest c.if-not-is_at_rest.false;
    silent = search rules;
    fresh = c.in-Ok.ensures.fresh;
    homes = c.in-Ok.ensures.homes;
    policy = refl;
  };
}
