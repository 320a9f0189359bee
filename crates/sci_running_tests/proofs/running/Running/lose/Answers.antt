use Rattle.std.proofs.Common.{map, sym, subst}
use Rattle.sci_lanes.specs.Gathering.{AreOf}
use Rattle.sci_station.specs.Station.{end_in}
use Rattle.sci_station.proofs.Belonging.{of_take}
use Rattle.sci_running_tests.proofs.running.Running.lose.Goals as goal

pub invariant_of-self : goal.invariant_of-self
invariant_of-self c = subst (λ xs. AreOf c.self.inside.fabric (map end_in xs)) (sym c.pop.ensures.rest)
    (of_take end_in c.self.inside.fabric _ c.self.inside.stations.items c.self.invariant)
