use Rattle.std.proofs.Common.{rules, refl}
use Rattle.sci_c.specs.Node.{IsReply}
use Rattle.sci_c.proofs.node.sci_node_take_answer.Goals as goal

pub returns-in-Some-take_answer-clause-done : goal.returns-in-Some-take_answer-clause-done
returns-in-Some-take_answer-clause-done c = λ ok.
    let replies : IsReply c.args.bytes.now c.encode.new.to c.encode.result c.in-Some.controller.now.node c.take_answer.new.self =
    record { packet = c.in-Some-take_answer.packet; replied = search rules; stand = search rules } in
    record {
      before = c.in-Some.controller.now;
      after = record c.in-Some.controller.now { node = c.take_answer.new.self };
      was = c.in-Some.ensures.value;
      is_now = refl;
      goes = record { node = replies; policy = refl };
    }
