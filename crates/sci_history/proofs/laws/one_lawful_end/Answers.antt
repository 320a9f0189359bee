use Rattle.sci_history.specs.Memory.{stamped_at}
use Rattle.sci_history.proofs.LawLemmas.{one_end, no_entry_end}
use Rattle.sci_history.proofs.laws.one_lawful_end.Goals as goal

pub returns-clause-same : goal.returns-clause-same
returns-clause-same c = λ logs a b h k line. one_end logs line (stamped_at a line) (stamped_at b line) (h line) (k line)

pub returns-clause-zero : goal.returns-clause-zero
returns-clause-zero c = λ logs last h line e. no_entry_end logs line (stamped_at last line) e (h line)
