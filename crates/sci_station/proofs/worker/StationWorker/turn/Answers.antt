use Rattle.sci_policy.specs.Deeds.{Turns}
use Rattle.sci_policy.proofs.Deeds.{one_deed}
use Rattle.sci_station.specs.Deeds.{IsDeed}
use Rattle.sci_station.proofs.worker.StationWorker.turn.Goals as goal

pub returns-clause-does : goal.returns-clause-does
returns-clause-does c = one_deed IsDeed (Turns c.turn.result) c.args.self.now c.turn.new.self c.turn.ensures.whole
