use Rattle.std.proofs.Common.{map, sym, subst, arith}
use Rattle.sci_lanes.specs.Gathering.{AreOf}
use Rattle.sci_station.proofs.Belonging.{of_swapped}
use Rattle.sci_running_tests.proofs.by_hand.ByHand.swap.Goals as goal

pub invariant_of-self : goal.invariant_of-self
invariant_of-self c =
    let l = c.self.inside.lanes in
    subst (λ xs. AreOf l (map (λ end. end) xs)) (sym c.swap.ensures.items)
    (of_swapped (λ end. end) l c.self.inside.ends.items c.args.first c.args.second (omega arith) (omega arith) c.self.invariant)
