use Rattle.std.proofs.Common.{rules, sym, ◌∙◌}
use Rattle.sci_c.proofs.{Begun.{lawful_zeros}, OrderFaults.{faulty_for}}
use Rattle.sci_c.proofs.ordering.kind_from_zeros.Goals as goal

pub returns-in-Fault : goal.returns-in-Fault
returns-in-Fault c =
    let unlawful = λ (lawful : _). faulty_for c.args.journal.now.logs c.logs-logs.result.now c.args.journal.now.last c.last.result.now c.in_ok-verdict.verdict
    _ _ _ c.logs-logs.ensures.logs c.last.ensures c.in-Fault.is c.nodes-sixteen.ensures.own
    (sym c.nodes-sixteen.ensures.nodes ∙ c.nodes-sixteen.ensures.sixteen) c.in_ok-verdict.ensures.verdict
    (lawful_zeros c.args.journal.now.first c.args.journal.now.logs c.args.journal.now.last c.requires lawful) in
    record {
      kinds = search rules;
      ordered = (λ e. absurd cc, λ both. absurd (unlawful both.0));
      cycle = λ e. absurd cc;
      unlawful = λ e. unlawful;
    }
