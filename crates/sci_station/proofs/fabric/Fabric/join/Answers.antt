use Rattle.std.proofs.Common.{map, sym, subst}
use Rattle.sci_lanes.specs.{Ends.{LanesOf}, Gathering.{AreOf}}
use Rattle.sci_station.specs.Station.{end_in}
use Rattle.sci_station.proofs.fabric.Fabric.join.Goals as goal

pub join-requires : goal.join-requires
join-requires c = record { own = subst (λ (l : LanesOf). AreOf l (map end_in c.args.stations.items)) (sym c.self.view_is) c.requires.own }
