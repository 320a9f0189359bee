use Rattle.std.proofs.Common.{take}
use Rattle.sci_allowed.specs.Allowed.{AreSeenAt}
use Rattle.sci_allowed.proofs.litmus.Litmus.outcomes_of.Given as goal

-- the standings so far
abbrev pub invariant-loop-standing : goal.invariant-loop-standing
invariant-loop-standing l = AreSeenAt l.self.script (take l.standing-index l.standings) l.outcomes.items
