use Rattle.sci_station.proofs.OwnEvents.{own_known}
use Rattle.sci_station.proofs.laws.ends_know_their_own_events.Goals as goal

pub returns : goal.returns
returns c = own_known
