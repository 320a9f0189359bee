use Rattle.std.proofs.Common.{◌≡◌, length}
use Rattle.sci_axe.specs.Notation.{digits_read}
use Rattle.sci_axe.proofs.notation.with_digits.Given as goal

abbrev pub invariant-loop-rest : goal.invariant-loop-rest
invariant-loop-rest l = digits_read l.base l.number l.rest ≡ digits_read l.base l.fn.front l.bytes

abbrev pub decreases-loop-rest : goal.decreases-loop-rest
decreases-loop-rest l = length l.rest
