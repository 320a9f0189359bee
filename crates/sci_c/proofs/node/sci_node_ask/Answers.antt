use Rattle.std.proofs.Common.{rules, refl}
use Rattle.sci_c.specs.Node.{IsAsk}
use Rattle.sci_c.proofs.node.sci_node_ask.Goals as goal

pub returns-in-Some-ask-clause-done : goal.returns-in-Some-ask-clause-done
returns-in-Some-ask-clause-done c = λ ok.
    let asks : IsAsk c.args.line c.args.ask c.args.bytes.now c.encode.new.to c.encode.result c.in-Some.controller.now.node c.ask.new.self =
    record { kind = c.in-Some-with_number.kind; packet = c.in-Some-ask.packet; number = search rules; asked = search rules; stand = search rules } in
    record {
      before = c.in-Some.controller.now;
      after = record c.in-Some.controller.now { node = c.ask.new.self };
      was = c.in-Some.ensures.value;
      is_now = refl;
      goes = record { node = asks; policy = refl };
    }
