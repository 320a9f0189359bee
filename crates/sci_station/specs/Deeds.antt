-- What a station does.
use Rattle.std.specs.Prelude.{◌≡◌, List, Some}
use Rattle.sci_words.specs.declared.event.Event.{Event}
use Rattle.sci_core.specs.Node.{node_issuing, node_performing}
use Rattle.sci_lanes.specs.{Shown.{me_of}, Telling.{IsMade}}
use Rattle.sci_policy.specs.Deeds.{Deed, DoesBy, Issues, Performs, Turns}
use Rattle.sci_turn.specs.Whole.{IsWholeTurn}
use Rattle.sci_station.specs.{Posts.{post_of}, Station.{StationOf, beaten_to, node_in, schedule_in}}
use Rattle.sci_words.specs.declared.event.Event.TheVariants as event

-- The station's node makes an event that concerns no lane, and is enabled when it comes; and nothing else of the station changes,
-- but for what is known of the schedule.
pub record Works (e : Event) (old new : StationOf) : Type 0 where
  pub made : IsMade old.end.part e (schedule_in new)
  pub rest : new ≡ beaten_to (schedule_in new) (node_in new) old

-- A deed of a station: it issues an operation, performs one, or takes a whole turn by its policy.
abbrev pub IsDeed : Deed → StationOf → StationOf → Type 0
IsDeed (Issues op) old new = Works (event.Issue (me_of old.end.part) op) old new × (node_issuing (node_in old) op ≡ Some (node_in new))
IsDeed (Performs line entry) old new =
    Works (event.Perform (me_of old.end.part) line) old new × (node_performing (node_in old) line ≡ Some (node_in new, entry))
IsDeed (Turns progress) old new = IsWholeTurn old.policy (post_of old.end) new.policy (post_of new.end) progress

-- these deeds, one after another, lead a station from one state to another
abbrev pub Does : List Deed → StationOf → StationOf → Type 0
Does deeds old new = DoesBy IsDeed deeds old new
