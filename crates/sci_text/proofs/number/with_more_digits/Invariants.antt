use Rattle.std.proofs.Common.{◌≡◌, Some, length}
use Rattle.sci_text.specs.Reading.{digits_read}
use Rattle.sci_text.proofs.number.with_more_digits.Given as goal

abbrev pub invariant-loop-rest : goal.invariant-loop-rest
invariant-loop-rest l = digits_read (Some l.number) l.rest ≡ digits_read (Some l.fn.front) l.bytes

abbrev pub decreases-loop-rest : goal.decreases-loop-rest
decreases-loop-rest l = length l.rest
