use Rattle.std.proofs.Common.{arith}
use Rattle.sci_station.proofs.Belonging.{of_changed}
use Rattle.sci_running_tests.proofs.by_hand.ByHand.make.Goals as goal

pub invariant_of-self : goal.invariant_of-self
invariant_of-self c = of_changed (λ end. end) c.self.inside.lanes c.self.inside.ends.items c.from-place.result _ c.make.new.end (omega arith)
    c.index_mut.ensures.value c.make.ensures c.self.invariant
