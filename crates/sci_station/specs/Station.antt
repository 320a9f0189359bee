-- A station, as its owner sees it.
use Rattle.sci_core.specs.Node.{NodeOf}
use Rattle.sci_policy.specs.Policy.{PolicyOf, opening_policy}
use Rattle.std.specs.Prelude.{List}
use Rattle.sci_words.specs.declared.event.Event.{Event}
use Rattle.sci_lanes.specs.Ends.{EndOf, beaten, informed_at}

pub record StationOf : Type 0 where
  pub end : EndOf
  pub policy : PolicyOf

abbrev pub end_in : StationOf → EndOf
end_in station = station.end

abbrev pub node_in : StationOf → NodeOf
node_in station = station.end.part.node

-- a station that has taken no turn yet
abbrev pub opening_station : EndOf → StationOf
opening_station end = record { end = end; policy = opening_policy }

-- the station after an event of its node that concerns no lane, after which the node is this one, with so much known of the
-- schedule
abbrev pub beaten_to : List Event → NodeOf → StationOf → StationOf
beaten_to schedule node station = record station { end = informed_at schedule (beaten node station.end) }

abbrev pub schedule_in : StationOf → List Event
schedule_in station = station.end.part.schedule
