use Rattle.std.proofs.Common.{◌≡◌, ◌<◌, ◌++◌, All, length, map}
use Rattle.sci_drive.specs.Driving.{HasSubmittedNothing}
use Rattle.sci_lanes.specs.Shown.{me_of}
use Rattle.sci_station.specs.Station.{node_in}
use Rattle.sci_threads.specs.Shares.{IsOpened, IsWell, own_of}
use Rattle.sci_threads.proofs.shares.shares.Given as goal

abbrev pub invariant-loop-station : goal.invariant-loop-station
invariant-loop-station g l =
    (map (λ share. share.station) l.shares.items ++ l.station-iterator.a.rest.items ≡ l.fn.stations.items)
    × (length l.station-iterator.a.rest.items ≡ length l.station-iterator.b.rest.items)
    × All (λ station. me_of station.end.part < length l.plan.operations.now) l.station-iterator.a.rest.items
    × All (λ station. HasSubmittedNothing (node_in station)) l.station-iterator.a.rest.items
    × All (λ share. IsWell share.driver share.station.end share.finished) l.shares.items
    × All (IsOpened l.plan.issuing (own_of l.plan.operations.now) l.plan.turns) l.shares.items
    × (map (λ share. share.gate) l.shares.items ++ l.station-iterator.b.rest.items ≡ l.fn.gates.items)
