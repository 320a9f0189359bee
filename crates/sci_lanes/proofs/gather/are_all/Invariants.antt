-- There are ends with the numbers so far.
use Rattle.std.proofs.Common.{ℕ, ◌<◌, map}
use Rattle.sci_lanes.specs.Gathering.{HasEndOf}
use Rattle.sci_lanes.proofs.gather.are_all.Given as goal

abbrev pub invariant-loop-n : goal.invariant-loop-n
invariant-loop-n g l = (k : ℕ) → k < l.n → HasEndOf (map g.E.HasEnd.end_of l.ends) k
