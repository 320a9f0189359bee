use Rattle.std.proofs.Common.{◌≡◌, map}
use Rattle.sci_outcomes.proofs.Ranked.{row_of}
use Rattle.sci_outcomes.proofs.histogram.Histogram.rows.Given as goal

-- the rows so far
abbrev pub invariant-loop-outcome : goal.invariant-loop-outcome
invariant-loop-outcome l = l.rows.items ≡ map row_of l.yielded
