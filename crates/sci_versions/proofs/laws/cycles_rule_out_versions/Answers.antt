use Rattle.sci_versions.proofs.Traces.{no_versions}
use Rattle.sci_versions.proofs.laws.cycles_rule_out_versions.Goals as goal

pub returns : goal.returns
returns c = no_versions
