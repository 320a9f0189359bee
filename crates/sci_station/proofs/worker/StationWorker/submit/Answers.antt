use Rattle.std.proofs.Common.{sym, arith}
use Rattle.sci_station.proofs.StationDeeds.{issued}
use Rattle.sci_station.proofs.worker.StationWorker.submit.Goals as goal

pub returns-clause-does : goal.returns-clause-does
returns-clause-does c = grind (arith, issued)

pub returns-clause-idle : goal.returns-clause-idle
returns-clause-idle c = λ err. sym (c.submit.ensures.same err)
