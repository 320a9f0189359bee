use Rattle.sci_text.proofs.LogOneFault.{one_log_fault}
use Rattle.sci_text.proofs.log_laws.one_log_fault.Goals as goal

pub returns : goal.returns
returns c = one_log_fault c.one_partition.ensures.one c.one_partition.ensures.own
