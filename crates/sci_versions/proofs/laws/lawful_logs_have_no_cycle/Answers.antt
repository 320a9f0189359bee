use Rattle.sci_versions.proofs.Cycles.{no_cycle}
use Rattle.sci_versions.proofs.laws.lawful_logs_have_no_cycle.Goals as goal

pub returns : goal.returns
returns c = no_cycle
