use Rattle.std.proofs.Common.{rules, ap, ◌∙◌}
use Rattle.sci_c_values.specs.Want.{decision_number}
use Rattle.sci_c.proofs.taking.sci_node_decide.Goals as goal

pub returns-then-not-is_request_for-clause-kept : goal.returns-then-not-is_request_for-clause-kept
returns-then-not-is_request_for-clause-kept c = record {
  done = search rules;
  range = λ is. record {
    thing = c.in-Some.controller.now;
    is_in = c.in-Some.ensures.value;
    holds = record { packet = c.in-Ok.packet; used = c.in-Ok.field-0-1; spells = c.in-Ok.ensures.found; holds = search rules };
  };
  fault = search rules;
  look = search rules;
}

pub returns-else-not-is_request_for-clause-kept : goal.returns-else-not-is_request_for-clause-kept
returns-else-not-is_request_for-clause-kept c = record {
  done = λ is. record {
    thing = c.in-Some.controller.now;
    is_in = c.in-Some.ensures.value;
    holds = record {
      packet = c.in-Ok.packet;
      used = c.in-Ok.field-0-1;
      spells = c.in-Ok.ensures.found;
      holds = (search rules, c.decision_out.ensures ∙ ap decision_number c.decide.ensures);
    };
  };
  range = search rules;
  fault = search rules;
  look = search rules;
}
