use Rattle.sci_text.proofs.LogOneFault.{no_log_fault}
use Rattle.sci_text.proofs.log_laws.no_log_fault.Goals as goal

pub returns : goal.returns
returns c = λ input nodes logs last is line kind. no_log_fault c.one_partition.ensures.one c.one_partition.ensures.own input nodes logs last line kind is
