use Rattle.sci_text.proofs.LogOneFault.{one_log}
use Rattle.sci_text.proofs.log_laws.one_log.Goals as goal

pub returns : goal.returns
returns c = one_log c.one_partition.ensures.one c.one_partition.ensures.own
