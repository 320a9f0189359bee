use Rattle.std.proofs.Common.{map, sym, subst, arith}
use Rattle.sci_lanes.specs.Gathering.{AreOf}
use Rattle.sci_station.specs.Station.{end_in}
use Rattle.sci_station.proofs.Belonging.{of_swapped}
use Rattle.sci_running_tests.proofs.running.Running.swap.Goals as goal

pub invariant_of-self : goal.invariant_of-self
invariant_of-self c =
    let f = c.self.inside.fabric in
    subst (λ xs. AreOf f (map end_in xs)) (sym c.swap.ensures.items)
    (of_swapped end_in f c.self.inside.stations.items c.args.first c.args.second (omega arith) (omega arith) c.self.invariant)
