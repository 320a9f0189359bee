use Rattle.std.proofs.Common.{All, ◌≡◌, length}
use Rattle.sci_drive.specs.Driving.{IsDriven}
use Rattle.sci_station.specs.Station.{node_in}
use Rattle.sci_station_timer.proofs.circle.all_answered.Given as goal

abbrev pub invariant-loop-n : goal.invariant-loop-n
invariant-loop-n l = All (λ runner. IsDriven runner.driver (node_in runner.station)) l.runners × (l.n-end ≡ length l.runners)
