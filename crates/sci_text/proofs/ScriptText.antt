-- The line of an operation is not empty.
use Rattle.std.proofs.Common.{ℕ, ◌<◌, length, arith}
use Rattle.sci_words.specs.declared.operation.Op.{Op}
use Rattle.sci_text.specs.Script.{operation_line}

pub line_nonempty : (node : ℕ) (op : Op) → 0 < length (operation_line node op)
unfolding operation_line
line_nonempty node op = omega arith
