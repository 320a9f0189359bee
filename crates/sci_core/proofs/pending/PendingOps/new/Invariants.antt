-- None of the lines so far has an operation pending.
use Rattle.std.proofs.Common.{◌≡◌, replicate, None}
use Rattle.sci_core.proofs.pending.PendingOps.new.Given as goal

abbrev pub invariant-loop-line : goal.invariant-loop-line
invariant-loop-line l = l.ops.items ≡ replicate l._line None
