-- None of the ends so far has this number.
use Rattle.std.proofs.Common.{◌≡◌, ◌≢◌, ℕ, ◌<◌, map, Some}
use Rattle.std.specs.Prelude.{slice_get}
use Rattle.sci_lanes.specs.{Shown.{me_of}, Ends.{EndOf}}
use Rattle.sci_lanes.proofs.gather.place_of.Given as goal

abbrev pub invariant-loop-place : goal.invariant-loop-place
invariant-loop-place g l = (k : ℕ) (end : EndOf) → k < l.place → slice_get (map g.E.HasEnd.end_of l.ends) k ≡ Some end → me_of end.part ≢ l.n
