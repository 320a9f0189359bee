-- What a step of a machine did, as it is seen.
use Rattle.std.specs.Prelude.{◌≡◌, ℕ, Option, Some, None, nat_lt, if◌then◌else◌, slice_get}
use Rattle.sci_words.specs.declared.event.Event.{Event}
use Rattle.sci_history.specs.declared.entry.Entry.{Entry}
use Rattle.sci_cache.specs.Cache.{Letter}
use Rattle.sci_core.specs.declared.lane.LaneKind.{LaneKind}
use Rattle.sci_core.specs.{Coherent.{IsCoherent}, Core.{Core, Side, Idle, Changes, Sends, Takes, lane_of, node_at, node_of, side, stepping}}
use Rattle.sci_core.specs.Node.{NodeOf, node_performing}
use Rattle.sci_c_values.specs.declared.{operation.SciEvent.{SciEvent}, seen.SciSeen.{SciSeen}}
use Rattle.sci_c_values.specs.{Operation.{SaysEvent}, Seen.{SaysSeen}}
use Rattle.sci_words.specs.declared.event.Event.TheVariants as event

-- the oldest packet of a lane, if there is such a sender
abbrev pub front_of : Core → LaneKind → ℕ → ℕ → Option Letter
front_of core kind from n = if nat_lt from core.size.nodes then slice_get (lane_of core kind from n) 0 else None

-- the packet that a side of an event of node n sends, or that it takes
abbrev pub moved_by : Core → ℕ → Side → Option Letter
moved_by core n Idle = None
moved_by core n (Changes next) = None
moved_by core n (Sends kind next letter) = Some letter
moved_by core n (Takes kind from taking) = front_of core kind from n

abbrev pub letter_moved : Core → Event → Option Letter
letter_moved core e = moved_by core (node_of e) (side (node_at core (node_of e)) e)

-- the entry that an event logs is that of a Perform
abbrev pub entry_in : Option (NodeOf × Entry) → Option Entry
entry_in None = None
entry_in (Some done) = Some done.1

abbrev pub entry_logged : Core → Event → Option Entry
entry_logged core (event.Perform n line) = entry_in (node_performing (node_at core n) line)
entry_logged core _ = None

-- the machine made the event; the packet moved, and the entry was logged, if the event has one
pub record HasMade (e : Event) (c : SciSeen) (before after : Core) : Type 0 where
  pub stepping : stepping before e ≡ Some after
  pub coherent : IsCoherent after
  pub seen : SaysSeen c (letter_moved before e) (entry_logged before e)

pub record IsSeenStep (c : SciEvent) (seen : SciSeen) (before after : Core) : Type 0 where
  pub event : Event
  pub says : SaysEvent c event
  pub made : HasMade event seen before after
