use Rattle.sci_threads.proofs.RunStations.{opened_all_fresh}
use Rattle.sci_threads.proofs.laws.new_stations_are_fresh.Goals as goal

pub returns : goal.returns
returns c = opened_all_fresh
