-- What came of each event of a schedule.
use Rattle.std.specs.Prelude.{ℕ, nat_lt, List, [], ◌∷◌, Option, Some, None, if◌then◌else◌, is_some}
use Rattle.sci_words.specs.declared.{event.Event.{Event}, extent.Extent.{Extent}, limits.TheConstants.{MAX_OPERATIONS}}
use Rattle.sci_packets.specs.{declared.command.Command.{Command}, Table.{command_of}}
use Rattle.sci_history.specs.declared.entry.Entry.{Entry}
use Rattle.sci_cache.specs.Cache.{Letter}
use Rattle.sci_core.specs.{Core.{Core, along, node_at, node_of, opening, step, stepping}, Done.{made_by}, Size.{size_of}}
use Rattle.sci_statistics.specs.declared.{kind.Access.{Access}, passage.Passage.{Passage}}
use Rattle.sci_statistics.specs.{About.{letter_sent, letter_taken, line_about}, Kinds.{access_of}}
use Rattle.sci_words.specs.Event.{kind_of}

-- what an operation does that was performed, if one was
abbrev pub access_in : Option Entry → Option Access
access_in None = None
access_in (Some entry) = Some (access_of entry.op)

-- the command of a packet, if there is one
abbrev pub command_in : Option Letter → Option Command
command_in None = None
command_in (Some letter) = Some (command_of letter.body)

-- the packet that an event takes, if it leads to another state
abbrev pub taken_to : Core → Event → Option Core → Option Letter
taken_to core e None = None
taken_to core e (Some next) = letter_taken core e

-- the answer that waits at a node, if there is such a node
abbrev pub waiting_at : Core → ℕ → Option Letter
waiting_at core n = if nat_lt n core.size.nodes then (node_at core n).waiting else None

-- an event in a state, and what comes of it
abbrev pub passage_of : Core → Event → Passage
passage_of core e = record {
  event = kind_of e;
  enabled = is_some (stepping core e);
  node = node_of e;
  line = line_about core e;
  made = access_in (made_by core e);
  sent = command_in (letter_sent core e);
  taken = command_in (taken_to core e (stepping core e));
  answer = command_in (waiting_at (step core e) (node_of e));
}

-- the events from a state on, each in the state to which those before it lead
abbrev pub passages : Core → List Event → List Passage
passages core events = along (λ at e. passage_of at e ∷ []) core events

-- the same from the beginning of a machine of this size, whose nodes may each issue 65,536 operations
abbrev pub passages_from : Extent → List Event → List Passage
passages_from extent events = passages (opening (size_of extent MAX_OPERATIONS)) events
