use Rattle.std.proofs.Common.{map, sym, subst}
use Rattle.sci_lanes.specs.{Ends.{LanesOf}, Gathering.{AreOf}}
use Rattle.sci_station.specs.Station.{end_in}
use Rattle.sci_running_tests.proofs.running.Running.finished.Goals as goal

pub invariant_of-result : goal.invariant_of-result
invariant_of-result c =
    let back = c.in-Err.ensures in
    subst (λ (l : LanesOf). AreOf l (map end_in c.in-Err.stations.items)) (sym back.fabric)
    (subst (λ xs. AreOf c.self.inside.fabric (map end_in xs)) (sym back.stations) c.self.invariant)
