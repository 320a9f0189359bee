use Rattle.sci_history.specs.Memory.{stamped_at}
use Rattle.sci_history.proofs.LawLemmas.{not_stale}
use Rattle.sci_history.proofs.laws.no_stale_read.Goals as goal

pub returns : goal.returns
returns c = λ logs last line node before after entry h lt is.
    not_stale logs line node (stamped_at last line) before after entry lt (h line) is
