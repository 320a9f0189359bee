-- What a node does with a packet that has come to it: one word for Serve, Refuse and Accept.
use Rattle.std.specs.Prelude.{ℕ, Option}
use Rattle.sci_words.specs.declared.event.Event.{Event}
use Rattle.sci_cache.specs.Cache.{Letter}
use Rattle.sci_core.specs.declared.{lane.LaneKind.{LaneKind, TheVariants.{Requests, Answers}}, taking.Taking.{Taking}}
use Rattle.sci_core.specs.declared.taking.Taking.TheVariants.{Serve, Refuse, Accept}
use Rattle.sci_core.specs.Node.{NodeOf, IsForNode, IsServable, node_serving, node_refusing, node_accepting}
use Rattle.sci_words.specs.declared.event.Event.TheVariants as event

-- the lane that the packet comes by
abbrev pub lane_kind : Taking → LaneKind
lane_kind Serve = Requests
lane_kind Refuse = Requests
lane_kind Accept = Answers

-- the event, of a packet from one node to another
abbrev pub taking_event : Taking → ℕ → ℕ → Event
taking_event Serve from n = event.Serve from n
taking_event Refuse from n = event.Refuse from n
taking_event Accept from n = event.Accept from n

-- the node after it, or none if it doesn't take the packet
abbrev pub node_taking : Taking → NodeOf → Letter → Option NodeOf
node_taking Serve node letter = node_serving node letter
node_taking Refuse node letter = node_refusing node letter
node_taking Accept node letter = node_accepting node letter

-- the packets that may be given to a node for it
abbrev pub IsTakable : Taking → NodeOf → Letter → Type 0
IsTakable Serve node letter = IsServable node letter
IsTakable Refuse node letter = IsServable node letter
IsTakable Accept node letter = IsForNode node letter
