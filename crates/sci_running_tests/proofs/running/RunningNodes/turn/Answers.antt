use Rattle.std.proofs.Common.{arith}
use Rattle.sci_station.specs.Station.{end_in}
use Rattle.sci_station.proofs.Belonging.{of_changed}
use Rattle.sci_running_tests.proofs.running.RunningNodes.turn.Goals as goal

pub invariant_of-self : goal.invariant_of-self
invariant_of-self c = of_changed end_in c.self.inside.fabric c.self.inside.stations.items c.from-place.result _ c.turn.new.self (omega arith)
    c.index_mut.ensures.value c.turn.ensures.end c.self.invariant
