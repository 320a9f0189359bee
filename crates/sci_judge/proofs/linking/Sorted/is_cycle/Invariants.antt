use Rattle.std.proofs.Common.{drop}
use Rattle.sci_judge.specs.{declared.access.Access.{Access}, Cycle.{AreLinked}, Witness.{IsAt}}
use Rattle.sci_judge.proofs.linking.Sorted.is_cycle.Given as goal

-- what goes on from the link so far to the first operation goes from it to itself
abbrev pub invariant-loop-next : goal.invariant-loop-next
invariant-loop-next l =
    let trace = l.self.trace.now in
    (z y : Access) → IsAt trace.accesses.items l.first.place z → IsAt trace.accesses.items l.link.place y
    → AreLinked l.self.timed trace l.link y (drop l.next-index l.others) l.first.place z
    → AreLinked l.self.timed trace l.first z l.others l.first.place z
