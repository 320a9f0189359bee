use Rattle.sci_versions.proofs.Written.{value_written}
use Rattle.sci_versions.proofs.laws.values_are_written.Goals as goal

pub returns : goal.returns
returns c = value_written
