use Rattle.std.proofs.Common.{map, sym, subst}
use Rattle.sci_lanes.specs.{Ends.{LanesOf}, Gathering.{AreOf}}
use Rattle.sci_station.specs.Station.{end_in}
use Rattle.sci_running_tests.proofs.running.Running.without_any.Goals as goal

pub invariant_of-result : goal.invariant_of-result
invariant_of-result c = subst (λ (l : LanesOf). AreOf l (map end_in c.self.inside.stations.items)) (sym c.in-Err-Missing-default-default.ensures.fabric)
    c.self.invariant
