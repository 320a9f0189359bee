use Rattle.sci_statistics.proofs.Places.{one_place}
use Rattle.sci_statistics.proofs.laws.places_are_distinct.Goals as goal

pub returns : goal.returns
returns c = one_place
