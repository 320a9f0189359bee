use Rattle.std.proofs.Common.{arith}
use Rattle.sci_reports.proofs.Checked.{known, last_refusal}
use Rattle.sci_reports.proofs.checking.checked.Goals as goal

pub returns-in_ok-sizes-in-None-clause-known : goal.returns-in_ok-sizes-in-None-clause-known
returns-in_ok-sizes-in-None-clause-known c = grind (arith, known)

pub returns-in-Some-clause-fault : goal.returns-in-Some-clause-fault
returns-in-Some-clause-fault c =
    last_refusal c.args.text.now c.last_fault-kind.result.1 c.of_text.result.fault c.of_text.ensures c.last_fault-kind.ensures
