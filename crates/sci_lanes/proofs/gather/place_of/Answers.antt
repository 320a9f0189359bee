use Rattle.std.proofs.{Common.{arith}, lemmas.Bool.{cases_lt}}
use Rattle.std.proofs.lemmas.{List.{length-map}, Option.{slice_get_within}}
use Rattle.sci_lanes.proofs.Joining.{mapped_at}
use Rattle.sci_lanes.proofs.gather.place_of.Goals as goal

pub loop-place-preserved : goal.loop-place-preserved
loop-place-preserved g c = grind (arith, cases_lt, mapped_at)

pub returns-clause-none : goal.returns-clause-none
returns-clause-none g c = grind (arith, slice_get_within, length-map)
