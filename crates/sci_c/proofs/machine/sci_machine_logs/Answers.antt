use Rattle.std.proofs.Common.{ap, ◌∙◌}
use Rattle.std.specs.Prelude.{Some}
use Rattle.sci_c.specs.{Journal.{JournalOf}, Kinds.{logs_in}}
use Rattle.sci_c.proofs.machine.sci_machine_logs.Goals as goal

pub returns-in-Ok-clause-done : goal.returns-in-Ok-clause-done
returns-in-Ok-clause-done c = λ ok. record {
  thing = c.in-Some.machine.now;
  is_in = c.in-Some.ensures.value;
  holds = record {
    are = ap logs_in (c.opened.ensures.opened ok) ∙ ap (λ (journal : JournalOf). Some journal) c.in-Ok.ensures.journal;
    lawful = c.in-Ok.ensures.lawful;
    consistent = c.in-Ok.ensures.consistent;
  };
}
