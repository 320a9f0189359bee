use Rattle.std.proofs.Common.{sym, arith}
use Rattle.sci_station.proofs.StationDeeds.{performed}
use Rattle.sci_station.proofs.worker.StationWorker.perform.Goals as goal

pub returns-clause-does : goal.returns-clause-does
returns-clause-does c = grind (arith, performed)

pub returns-clause-idle : goal.returns-clause-idle
returns-clause-idle c = λ none. sym (c.perform.ensures.same none)
