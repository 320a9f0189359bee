use Rattle.std.proofs.Common.{◌≡◌, [], All, map}
use Rattle.sci_lanes.specs.Ends.{EndOf}
use Rattle.sci_station.specs.Station.{opening_station}
use Rattle.sci_station.proofs.fabric.Fabric.new.Given as goal

abbrev pub invariant-loop-end : goal.invariant-loop-end
invariant-loop-end l = record {
  made : l.stations.items ≡ map opening_station l.yielded;
  fresh : All (λ (end : EndOf). end.part.schedule ≡ []) l.end-iterator.rest.items;
}
