use Rattle.std.proofs.Common.{All}
use Rattle.sci_drive.specs.Driving.{IsDriven}
use Rattle.sci_station.specs.Station.{node_in}
use Rattle.sci_station_timer.proofs.circle.rounds.Given as goal

abbrev pub invariant-loop-round : goal.invariant-loop-round
invariant-loop-round l = All (λ runner. IsDriven runner.driver (node_in runner.station)) l.runners
