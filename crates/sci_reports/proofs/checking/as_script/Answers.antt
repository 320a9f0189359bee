use Rattle.std.proofs.Common.{arith}
use Rattle.sci_reports.proofs.Checked.{faulty_reading}
use Rattle.sci_reports.proofs.checking.as_script.Goals as goal

pub returns-in-Err-clause-read : goal.returns-in-Err-clause-read
returns-in-Err-clause-read c = grind (arith, faulty_reading)
