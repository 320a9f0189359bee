use Rattle.sci_windows.proofs.{Reductions.{zeros_from_lawful, zeros_to_lawful}, Verdicts.{zero_faults}}
use Rattle.sci_windows.proofs.laws.windows_from_zeros.Goals as goal

pub returns-clause-lawful : goal.returns-clause-lawful
returns-clause-lawful c logs last lines own sixteen = (zeros_to_lawful logs last lines sixteen, zeros_from_lawful logs last lines own sixteen)

pub returns-clause-faults : goal.returns-clause-faults
returns-clause-faults c = zero_faults
