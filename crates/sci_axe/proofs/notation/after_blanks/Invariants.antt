use Rattle.std.proofs.Common.{◌≡◌, length}
use Rattle.sci_axe.specs.Notation.{behind_blanks}
use Rattle.sci_axe.proofs.notation.after_blanks.Given as goal

abbrev pub invariant-loop-rest : goal.invariant-loop-rest
invariant-loop-rest l = behind_blanks l.bytes ≡ behind_blanks l.rest

abbrev pub decreases-loop-rest : goal.decreases-loop-rest
decreases-loop-rest l = length l.rest
