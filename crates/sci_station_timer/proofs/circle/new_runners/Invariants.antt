use Rattle.std.proofs.Common.{All, ◌≤◌, length}
use Rattle.sci_words.specs.declared.limits.TheConstants.{MAX_OPERATIONS}
use Rattle.sci_drive.specs.Driving.{HasSubmittedNothing, IsDriven}
use Rattle.sci_station.specs.Station.{node_in}
use Rattle.sci_station_timer.proofs.circle.new_runners.Given as goal

abbrev pub invariant-loop-station : goal.invariant-loop-station
invariant-loop-station l =
    All (λ runner. IsDriven runner.driver (node_in runner.station)) l.runners.items
    × All (λ station. HasSubmittedNothing (node_in station)) l.station-iterator.a.rest.items
    × All (λ own. length own.items ≤ MAX_OPERATIONS) l.station-iterator.b.rest.now
