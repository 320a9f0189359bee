use Rattle.std.proofs.{Common.{◌<◌}, lemmas.List.Kept.{AllPairs-filter}}
use Rattle.sci_history.specs.{declared.entry.Entry.{Entry}, Placed.{is_on_line}}
use Rattle.sci_history.proofs.SequentialRuns.{order_is_lawful}
use Rattle.sci_history.proofs.laws.sequential_logs_are_lawful.Goals as goal

pub returns-clause-lawful : goal.returns-clause-lawful
returns-clause-lawful c logs last sixteen is serials = order_is_lawful logs last is.0 sixteen is.1 serials

pub returns-clause-serials : goal.returns-clause-serials
returns-clause-serials c log line rising = AllPairs-filter (λ (x y : Entry). x.serial < y.serial) (is_on_line line) log rising
