-- What the calls for machines answer.
use Rattle.std.specs.Prelude.{◌≡◌, ℕ, ◌<◌, Option, Some, None, IsSome, IsTrue}
use Rattle.sci_words.specs.declared.event.Event.{Event}
use Rattle.sci_history.specs.{Lawful.{Lawful}, Sequential.{IsSequentiallyConsistent}}
use Rattle.sci_core.specs.{Core.{Core, opening, stepping}, Coherent.{IsCoherent}, Fault.{is_sending}, Outcome.{logs_of}}
use Rattle.sci_core.specs.{Settling.{IsSettled, IsWithin, Leads, LeadsOn, settles}, Shape.{IsAuthority}}
use Rattle.sci_core.specs.{Sharing.{last_at, last_of}, Size.{Size}}
use Rattle.sci_c_values.specs.declared.{operation.SciEvent.{SciEvent}, stamped.SciStamped.{SciStamped}}
use Rattle.sci_c_values.specs.{Operation.{SaysEvent}, Stamped.{stamped_struct}}
use Rattle.sci_c.specs.{declared.thing.Thing.{Thing}, Journal.{journal_of}, Kinds.{machine_in, logs_in}}

abbrev pub size : ℕ → ℕ → ℕ → ℕ → Size
size nodes lines slots limit = record { nodes = nodes; lines = lines; slots = slots; limit = limit }

-- the machine of this size in which no line was touched
pub record IsOpening (size : Size) (new : Option Thing) : Type 0 where
  pub machine : machine_in new ≡ Some (opening size)
  pub coherent : IsCoherent (opening size)

-- the machine made the event that the struct says
pub record IsStep (c : SciEvent) (before after : Core) : Type 0 where
  pub event : Event
  pub says : SaysEvent c event
  pub stepping : stepping before event ≡ Some after
  pub coherent : IsCoherent after

-- the event that the struct says is not enabled
pub record IsNotEnabled (c : SciEvent) (machine : Core) : Type 0 where
  pub event : Event
  pub says : SaysEvent c event
  pub none : stepping machine event ≡ None

-- it is enabled, and sends a packet, which takes memory
pub record IsSending (c : SciEvent) (machine : Core) : Type 0 where
  pub event : Event
  pub says : SaysEvent c event
  pub enabled : IsSome (stepping machine event)
  pub sends : IsTrue (is_sending event)

-- the machine has come to rest by this many events
pub record IsSettling (count : ℕ) (before after : Core) : Type 0 where
  pub settled : IsSettled after
  pub leads : Leads settles before after count
  pub within : IsWithin before count
  pub coherent : IsCoherent after

-- the machine has made some of the events that bring it to rest
pub record IsPartOfSettling (before after : Core) : Type 0 where
  pub leads : LeadsOn settles before after
  pub coherent : IsCoherent after

-- the last contents of a line
pub record IsMachineLast (line : ℕ) (c : SciStamped) (machine : Core) : Type 0 where
  pub here : line < machine.size.lines
  pub contents : c ≡ stamped_struct (last_at machine line)

-- the one node that may change a line or is about to
pub record IsAuthorityOf (line n : ℕ) (machine : Core) : Type 0 where
  pub here : line < machine.size.lines
  pub below : n < machine.size.nodes
  pub authority : IsAuthority machine line n

-- no node may change the line, nor is about to
pub record HasNoAuthority (line : ℕ) (machine : Core) : Type 0 where
  pub here : line < machine.size.lines
  pub none : (n : ℕ) → n < machine.size.nodes → IsAuthority machine line n → ⊥

-- the logs and the last contents of a machine
pub record AreLogsOf (new : Option Thing) (machine : Core) : Type 0 where
  pub are : logs_in new ≡ Some (journal_of machine.size.nodes (logs_of machine) (last_of machine))
  pub lawful : Lawful (logs_of machine) (last_of machine)
  pub consistent : IsSequentiallyConsistent (logs_of machine) (last_of machine)
