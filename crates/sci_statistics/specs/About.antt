-- Which packet an event sends or takes, and which line it is about.
use Rattle.std.specs.Prelude.{ℕ, nat_lt, ◌&&◌, Option, Some, None, if◌then◌else◌, slice_get}
use Rattle.sci_words.specs.declared.event.Event.{Event}
use Rattle.sci_cache.specs.Cache.{Letter}
use Rattle.sci_core.specs.declared.lane.LaneKind.{LaneKind, TheVariants.{Requests, Answers}}
use Rattle.sci_core.specs.Core.{Core, Side, Idle, Changes, Sends, Takes, side, node_at, node_of, lane_of}
use Rattle.sci_words.specs.declared.event.Event.TheVariants as event

-- the packet that a node's side of an event sends, if it sends one
abbrev pub sent_in : Side → Option Letter
sent_in (Sends kind next letter) = Some letter
sent_in Idle = None
sent_in (Changes next) = None
sent_in (Takes kind from taking) = None

-- the packet that an event sends, if it is enabled and sends one
abbrev pub letter_sent : Core → Event → Option Letter
letter_sent core e = if nat_lt (node_of e) core.size.nodes then sent_in (side (node_at core (node_of e)) e) else None

-- the oldest packet of a lane, if there are such nodes
abbrev pub front_of : Core → LaneKind → ℕ → ℕ → Option Letter
front_of core kind from n = if nat_lt from core.size.nodes && nat_lt n core.size.nodes then slice_get (lane_of core kind from n) 0 else None

-- the packet that an event takes, if it is enabled and takes one
abbrev pub letter_taken : Core → Event → Option Letter
letter_taken core (event.Serve from n) = front_of core Requests from n
letter_taken core (event.Refuse from n) = front_of core Requests from n
letter_taken core (event.Accept from n) = front_of core Answers from n
letter_taken core (event.Issue n op) = None
letter_taken core (event.Perform n line) = None
letter_taken core (event.Ask n line kind) = None
letter_taken core (event.Reply n) = None

-- the line of a packet, if the machine has it
abbrev pub line_in : Core → Option Letter → Option ℕ
line_in core None = None
line_in core (Some letter) = if nat_lt letter.line core.size.lines then Some letter.line else None

-- the line that a Perform or an Ask names, and that of a packet that is taken; an Issue and a Reply change none
abbrev pub line_changed : Core → Event → Option ℕ
line_changed core (event.Perform n line) = Some line
line_changed core (event.Ask n line kind) = Some line
line_changed core (event.Serve from n) = line_in core (front_of core Requests from n)
line_changed core (event.Refuse from n) = line_in core (front_of core Requests from n)
line_changed core (event.Accept from n) = line_in core (front_of core Answers from n)
line_changed core (event.Issue n op) = None
line_changed core (event.Reply n) = None

-- the line that an event is about: the one that it names, or else that of the packet which it takes or sends
abbrev pub line_about : Core → Event → Option ℕ
line_about core (event.Issue n op) = Some op.line
line_about core (event.Reply n) = line_in core (letter_sent core (event.Reply n))
line_about core (event.Perform n line) = Some line
line_about core (event.Ask n line kind) = Some line
line_about core (event.Serve from n) = line_in core (front_of core Requests from n)
line_about core (event.Refuse from n) = line_in core (front_of core Requests from n)
line_about core (event.Accept from n) = line_in core (front_of core Answers from n)
