use Rattle.std.proofs.Common.{rules, inr}
use Rattle.sci_c.proofs.turning.take_struct.Goals as goal

pub returns-then-not-is_request_for-clause-leaves : goal.returns-then-not-is_request_for-clause-leaves
returns-then-not-is_request_for-clause-leaves c = λ _. record { leaves = inr (c.in-Ok.packet, c.in-Ok.ensures.says, search rules) }

pub returns-then-not-take_request-clause-leaves : goal.returns-then-not-take_request-clause-leaves
returns-then-not-take_request-clause-leaves c = λ _. record { leaves = inr (c.in-Ok.packet, c.in-Ok.ensures.says, search rules) }

pub returns-clause-taken : goal.returns-clause-taken
returns-clause-taken c = λ _ taken.
    let done = c.take_request.ensures.done c.if-not-take_request.false in
    record {
      packet = c.in-Ok.packet;
      says = c.in-Ok.ensures.says;
      may = search rules;
      taking = done.0;
      mid = c.take_request.new.controller;
      done = done.1;
      replies = c.reply.ensures.replies taken;
    }
