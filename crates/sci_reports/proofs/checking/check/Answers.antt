use Rattle.std.proofs.Common.{arith}
use Rattle.sci_reports.proofs.Checked.{checked_answers}
use Rattle.sci_reports.proofs.checking.check.Goals as goal

pub returns : goal.returns
returns g c = grind (arith, checked_answers)
