use Rattle.std.proofs.Common.{drop}
use Rattle.sci_judge.specs.{declared.access.Access.{Access}, Witness.{AreInTurn, IsAt}}
use Rattle.sci_judge.proofs.site.Site.is_round.Given as goal

-- what goes on from the place so far to the maker goes from the maker to itself
abbrev pub invariant-loop-next : goal.invariant-loop-next
invariant-loop-next l =
    (z y : Access) → IsAt l.self.accesses.now l.maker z → IsAt l.self.accesses.now l.place y
    → AreInTurn l.self.timed l.self.accesses.now l.place y (drop l.next-index l.through) l.maker z
    → AreInTurn l.self.timed l.self.accesses.now l.maker z l.through l.maker z
