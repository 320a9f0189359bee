use Rattle.std.proofs.Common.{◌≡◌}
use Rattle.sci_allowed.specs.Allowed.{rows_of}
use Rattle.sci_allowed.proofs.rows.tagged.Given as goal

-- the rows so far
abbrev pub invariant-loop-outcome : goal.invariant-loop-outcome
invariant-loop-outcome l = l.rows.items ≡ rows_of l.yielded l.in_order
