-- A machine with the schedule that has led it where it stands.
use Rattle.std.specs.Prelude.{◌≡◌, ◌≢◌, ◌<◌, ◌≤◌, ◌==◌, ◌⊎◌, ℕ, List, [], length, map, Option, Some, None, slice_get, if◌then◌else◌}
use Rattle.std.specs.List.{Contains, filter_map}
use Rattle.sci_words.specs.declared.{event.Event.{Event}, operation.Op.{Op}, limits.TheConstants.{MAX_EVENTS, MAX_OPERATIONS}}
use Rattle.sci_history.specs.declared.entry.Entry.{Entry}
use Rattle.sci_text.specs.Schedule.{ScheduleValue}
use Rattle.sci_core.specs.{Core.{AreEnabled, Core, node_at, run}, Node.{NodeOf, pending_on}, Size.{Size}}
use Rattle.sci_runs.specs.declared.fault.RunFault.{RunFault, TheVariants.{TooMany}}
use Rattle.sci_words.specs.declared.event.Event.TheVariants as event

-- ---- sizes

-- the schedule is of a machine of this size
pub record IsOfSize (size : Size) (schedule : ScheduleValue) : Type 0 where
  pub nodes_are : schedule.nodes ≡ size.nodes
  pub lines_are : schedule.lines ≡ size.lines
  pub slots_are : schedule.slots ≡ size.slots

-- both are of machines of one size
pub record IsSameSize (old new : ScheduleValue) : Type 0 where
  pub nodes_are : new.nodes ≡ old.nodes
  pub lines_are : new.lines ≡ old.lines
  pub slots_are : new.slots ≡ old.slots

-- ---- issues

-- the operation that an event issues at a node, if it does
abbrev pub issued_at : ℕ → Event → Option Op
issued_at n (event.Issue m op) = if m == n then Some op else None
issued_at n _ = None

-- the operations that events issue at a node, in their order
abbrev pub issues_at : ℕ → List Event → List Op
issues_at n events = filter_map (issued_at n) events

-- the operation is pending at the node with this serial, or logged with it
abbrev pub IsKnown : NodeOf → ℕ → Op → Type 0
IsKnown node serial op =
    (pending_on node op.line ≡ Some (record { serial = serial; op = op }))
    ⊎ ((entry : Entry) × Contains node.log entry × (entry.serial ≡ serial) × (entry.op ≡ op))

-- these are the operations that the node has issued: each is known there by its serial
pub record HasIssued (ops : List Op) (node : NodeOf) : Type 0 where
  pub counted : length ops ≡ node.issued
  pub each : (serial : ℕ) (op : Op) → slice_get ops serial ≡ Some op → IsKnown node serial op

-- ---- limits

-- the same size, but for how many operations each node may issue
abbrev pub with_limit : ℕ → Size → Size
with_limit limit size = record size { limit = limit }

-- the same node, but for how many operations it may issue
abbrev pub raised_node : ℕ → NodeOf → NodeOf
raised_node limit node = record node { limit = limit }

-- the same state, but for how many operations each node may issue
abbrev pub raised : ℕ → Core → Core
raised limit core = record core { size = with_limit limit core.size; parts = map (raised_node limit) core.parts }

-- ---- the schedule

-- the events lead a new machine whose nodes may issue 65,536 operations each to this state, but for its own limit, and each
-- of them is enabled when it comes
pub record HasLed (events : List Event) (core : Core) : Type 0 where
  pub leads : run (with_limit MAX_OPERATIONS core.size) events ≡ raised MAX_OPERATIONS core
  pub enabled : AreEnabled (with_limit MAX_OPERATIONS core.size) [] events
  pub issued : (n : ℕ) → n < core.size.nodes → HasIssued (issues_at n events) (node_at core n)

-- a machine's state, its schedule, and why an event was lost, if one was
pub record RecorderOf : Type 0 where
  pub core : Core
  pub schedule : ScheduleValue
  pub lost : Option RunFault

-- what has come of a machine so far: its state, and the events that led to it
pub record Course : Type 0 where
  pub core : Core
  pub events : List Event

abbrev pub course_of : RecorderOf → Course
course_of recorder = record { core = recorder.core; events = recorder.schedule.events }

-- the schedule is of the machine's size, and unless an event was lost it has led to the state; if one was lost since there were
-- too many, the schedule is full
pub record IsRecorder (recorder : RecorderOf) : Type 0 where
  pub sized : IsOfSize recorder.core.size recorder.schedule
  pub led : recorder.lost ≡ None → HasLed recorder.schedule.events recorder.core
  pub full : recorder.lost ≡ Some TooMany → MAX_EVENTS ≤ length recorder.schedule.events

-- an event that was lost stays lost, and then nothing more is recorded
abbrev pub KeepsLoss : RecorderOf → RecorderOf → Type 0
KeepsLoss old new = (fault : RunFault) → old.lost ≡ Some fault → (new.lost ≡ Some fault) × (new.schedule ≡ old.schedule)

-- what other nodes than this one are stays, and how many there are
pub record SparesOthers (n : ℕ) (old new : Core) : Type 0 where
  pub size : new.size ≡ old.size
  pub others : (m : ℕ) → m ≢ n → node_at new m ≡ node_at old m
