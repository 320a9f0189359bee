-- A log is lawful exactly if no line of it has a fault.
use Rattle.std.proofs.Common.{arith}
use Rattle.sci_reports.proofs.explaining.explained.Goals as goal

pub returns-then-not-has_fault : goal.returns-then-not-has_fault
returns-then-not-has_fault c = grind arith

pub returns : goal.returns
returns c = grind arith
