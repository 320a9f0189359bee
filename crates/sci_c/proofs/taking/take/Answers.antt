use Rattle.std.proofs.Common.{rules, ◌≡◌, None, refl}
use Rattle.sci_c.specs.Taking.{Begins, HasTaken, IsTakable, node_taking, policy_noting}
use Rattle.sci_c.proofs.taking.take.Goals as goal

pub returns-then-not-may : goal.returns-then-not-may
returns-then-not-may c =
    let brings : Begins c.args.bytes.now (λ letter. IsTakable c.args.taking c.in-Some.controller.now.node letter → ⊥) =
    record { packet = c.in-Ok.packet; used = c.in-Ok.field-0-1; spells = c.in-Ok.ensures.found; holds = search rules } in
    record {
      done = search rules;
      refused = search rules;
      range = λ is. record { thing = c.in-Some.controller.now; is_in = c.in-Some.ensures.value; holds = brings };
      fault = search rules;
      change = search rules;
    }

pub returns-then-not-give : goal.returns-then-not-give
returns-then-not-give c =
    let brings : Begins c.args.bytes.now (λ letter. IsTakable c.args.taking c.in-Some.controller.now.node letter
    × (node_taking c.args.taking c.in-Some.controller.now.node letter ≡ None)) =
    record { packet = c.in-Ok.packet; used = c.in-Ok.field-0-1; spells = c.in-Ok.ensures.found; holds = search rules } in
    record {
      done = search rules;
      refused = λ is. record { thing = c.in-Some.controller.now; is_in = c.in-Some.ensures.value; holds = brings };
      range = search rules;
      fault = search rules;
      change = search rules;
    }

pub returns-else-not-give : goal.returns-else-not-give
returns-else-not-give c =
    let after = record c.in-Some.controller.now { node = c.give.new.node; policy = c.note.new.policy } in
    let brings : Begins c.args.bytes.now (HasTaken (IsTakable c.args.taking) (node_taking c.args.taking) (policy_noting c.args.taking)
    c.in-Some.controller.now after) =
    record {
      packet = c.in-Ok.packet;
      used = c.in-Ok.field-0-1;
      spells = c.in-Ok.ensures.found;
      holds = record { may_take = search rules; taken = search rules; noted = c.note.ensures };
    } in
    record {
      done = λ is. record {
        before = c.in-Some.controller.now;
        after = after;
        was = c.in-Some.ensures.value;
        is_now = refl;
        goes = brings;
      };
      refused = search rules;
      range = search rules;
      fault = search rules;
      change = search rules;
    }
