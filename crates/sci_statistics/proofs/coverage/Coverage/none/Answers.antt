use Rattle.std.proofs.lemmas.List.{get_or-replicate}
use Rattle.sci_statistics.proofs.Counts.{place_small}
use Rattle.sci_statistics.proofs.coverage.Coverage.none.Goals as goal

pub returns : goal.returns
returns c = λ t. get_or-replicate 833 _ 0 0 (place_small t)
