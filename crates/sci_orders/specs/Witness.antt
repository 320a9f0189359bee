-- What is seen of a schedule from outside, and a schedule for each order.
use Rattle.std.specs.List.{AllByRecursion}
use Rattle.std.specs.Prelude.{◌≡◌, ◌<◌, ◌≤◌, ◌==◌, ◌%◌, ◌&&◌, ◌++◌, ℕ, Bool, true, false, if◌then◌else◌, IsTrue, List, [], ◌∷◌, count_by, is_some}
use Rattle.sci_words.specs.Operation.{has_words}
use Rattle.sci_words.specs.declared.{event.{AskKind.{AskKind}, Event.{Event}}, limits.TheConstants.{WORDS_PER_LINE}, operation.Op.{Op}}
use Rattle.sci_history.specs.Oracle.{Issue, oracle_entries, oracle_last}
use Rattle.sci_core.specs.{Core.{Core, along, opening, stepping, run}, Done.{done}, Sharing.{last_of}, Size.{Size}}
use Rattle.sci_orders.specs.Plain.{AreAllowed, opening_plain, plain_done, plain_run}
use Rattle.sci_words.specs.declared.event.Event.TheVariants as event
use Rattle.sci_words.specs.declared.event.AskKind.TheVariants as kind

-- every event
abbrev pub any_event : Event → Bool
any_event e = true

-- ---- what is seen

-- an Issue or a Perform
abbrev pub is_seen : Event → Bool
is_seen (event.Issue n op) = true
is_seen (event.Perform n line) = true
is_seen _ = false

-- the event, if it is one of these and is enabled
abbrev pub seen_at : Core → Event → List Event
seen_at core e = if is_seen e && is_some (stepping core e) then e ∷ [] else []

abbrev pub seen_from : Core → List Event → List Event
seen_from core events = along seen_at core events

-- the Issues and Performs of a schedule that are enabled when they come, in its order
abbrev pub seen : Size → List Event → List Event
seen size schedule = seen_from (opening size) schedule

-- ---- a schedule for each order

-- a round: a request is asked of a node, served, answered and accepted
abbrev pub round_with : (server n line : ℕ) → AskKind → List Event
round_with server n line ask = event.Ask n line ask ∷ event.Serve n server ∷ event.Reply server ∷ event.Accept server n ∷ []

-- a round with the line's home
abbrev pub round_of : Size → (n line : ℕ) → AskKind → List Event
round_of size n line ask = round_with (line % size.nodes) n line ask

-- an operation is performed as its node reads the line, performs, and writes the line back
abbrev pub turn_of : Size → Event → List Event
turn_of size (event.Perform n line) = round_of size n line kind.Mread ++ (event.Perform n line ∷ round_of size n line kind.Wback)
turn_of size e = e ∷ []

-- a schedule for an order: each Issue as it is, and nine events for each Perform
abbrev pub schedule_of : Size → List Event → List Event
schedule_of size [] = []
schedule_of size (e ∷ order) = turn_of size e ++ schedule_of size order

-- ---- what a schedule and an order have in common

-- one memory of one thread allows the order, and makes the entries and the last contents of the schedule of it
pub record IsExplainedBy (size : Size) (schedule order : List Event) : Type 0 where
  pub allowed : AreAllowed (opening_plain size) order
  pub done : done size schedule ≡ plain_done (opening_plain size) order
  pub last : last_of (run size schedule) ≡ (plain_run (opening_plain size) order).contents

-- ---- one operation after another

-- each operation is issued and performed before the next one
abbrev pub one_by_one : List Issue → List Event
one_by_one [] = []
one_by_one (issue ∷ script) = event.Issue issue.0 issue.1 ∷ event.Perform issue.0 issue.1.line ∷ one_by_one script

-- an operation of a node of the machine: node, line and word are the machine's, and the operands are words
pub record IsOperation (size : Size) (n : ℕ) (op : Op) : Type 0 where
  pub node : n < size.nodes
  pub line : op.line < size.lines
  pub word : op.word < WORDS_PER_LINE
  pub words : IsTrue (has_words op.act)

abbrev pub IsFor : Size → Issue → Type 0
IsFor size issue = IsOperation size issue.0 issue.1

-- each operation is one of the machine's, and no node has more than it may issue
pub record AreFor (size : Size) (script : List Issue) : Type 0 where
  pub each : AllByRecursion (IsFor size) script
  pub few : (n : ℕ) → count_by (λ issue. issue.0 == n) script ≤ size.limit

-- a schedule issues and performs a script's operations one after another, and makes the oracle's entries and last contents
pub record IsOracleRun (size : Size) (script : List Issue) (schedule : List Event) : Type 0 where
  pub seen : seen size schedule ≡ one_by_one script
  pub done : done size schedule ≡ oracle_entries size.lines script
  pub last : last_of (run size schedule) ≡ oracle_last size.lines script
