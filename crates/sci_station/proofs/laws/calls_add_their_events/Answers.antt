use Rattle.sci_station.proofs.OwnEvents.{own_added}
use Rattle.sci_station.proofs.laws.calls_add_their_events.Goals as goal

pub returns : goal.returns
returns c = own_added
