-- The rounds of a run, one after another: whose each is, and what its node does in it.
use Rattle.std.specs.Prelude.{◌≡◌, ◌≢◌, ◌<◌, ◌≤◌, ◌↔◌, ◌⊎◌, ℕ, zero, suc, All, Bool, true, List, [], Option, Ok, Result, IsErr, length, slice_index_or}
use Rattle.std.specs.declared.alloc.AllocError.{AllocError}
use Rattle.sci_words.specs.declared.{event.Event.{Event}, limits.TheConstants.{MAX_OPERATIONS}}
use Rattle.sci_text.specs.{Script.{ScriptValue}, Schedule.{ScheduleValue}}
use Rattle.sci_core.specs.{Core.{Core, node_at, opening, run}, Node.{NodeOf}}
use Rattle.sci_policy.specs.{Deeds.{Deed}, Policy.{PolicyOf, opening_policy}}
use Rattle.sci_drive.specs.{declared.driver.{Issuing.{Issuing}, Round.{Round}}, Calls.{IsOpen}}
use Rattle.sci_drive.specs.{Driving.{DriverOf, IsAnswered, IsDriven, opening_driver}, Rounds.{IsDrivenRound}}
use Rattle.sci_text.specs.Script.{operations_of}
use Rattle.sci_drive.specs.ScriptLogs.{size_for}
use Rattle.sci_runs.specs.{declared.order.Order.{Order}, Deeds.{Does, Fills, FillsTurning}, Recorded.{Course, raised, with_limit}}
use Rattle.sci_runs.specs.Turns.{first_order, next_node, next_order}

-- ---- a run

-- what a run has at one moment: the machine's state, the events so far, and the driver and what the policy remembers of each node
pub record Moment : Type 0 where
  pub core : Core
  pub events : List Event
  pub drivers : List DriverOf
  pub policies : List PolicyOf

abbrev pub course_at : Moment → Course
course_at moment = record { core = moment.core; events = moment.events }

abbrev pub policy_at : Moment → ℕ → PolicyOf
policy_at moment n = slice_index_or moment.policies n opening_policy

abbrev pub driver_at : Moment → ℕ → DriverOf → DriverOf
driver_at moment n d = slice_index_or moment.drivers n d

-- what each node's driver, or policy, is stays, but for node n's
abbrev pub StaysBut : {A : Type 0} → ℕ → List A → List A → Type 0
StaysBut n old new = (m : ℕ) (d : _) → m ≢ n → slice_index_or new m d ≡ slice_index_or old m d

-- a round of a driver whose gate allows all that it is asked about
abbrev pub IsOpenRound : List Deed → DriverOf → DriverOf → NodeOf → NodeOf → Result Round AllocError → Type 0
IsOpenRound deeds old new before after result = IsDrivenRound (λ (first : Unit {0}) calls last. All IsOpen calls) deeds tt tt old new before after result

-- A round of node n by these deeds: it submits the next operation if it can, performs what it can, and takes one turn. It is
-- never told to wait. At its end the driver has driven the node as far as it has come.
pub record IsRound (n : ℕ) (old new : Moment) : Type 0 where
  pub some : n < old.core.size.nodes
  pub round : Round
  pub deeds : List Deed
  pub goes : (d : DriverOf) → IsOpenRound deeds (driver_at old n d) (driver_at new n d) (node_at old.core n) (node_at new.core n) (Ok round)
  pub does : Does n deeds (policy_at old n) (course_at old) (policy_at new n) (course_at new)
  pub driven : (d : DriverOf) → IsDriven (driver_at new n d) (node_at new.core n)
  pub many : length new.drivers ≡ length old.drivers
  pub drivers : StaysBut n old.drivers new.drivers
  pub policies : StaysBut n old.policies new.policies

-- some operation of the script has no entry yet
abbrev pub AwaitsEntries : Moment → Type 0
AwaitsEntries moment = All IsAnswered moment.drivers → ⊥

-- this many rounds, of the nodes that come in this order, each from a moment at which some operation has no entry yet
abbrev pub Played : ℕ → ℕ → Order → Moment → Order → Moment → Type 0
Played nodes zero order old later new = (order ≡ later) × (old ≡ new)
Played nodes (suc rounds) order old later new =
    (mid : Moment) × (next : Order) × Played nodes rounds order old next mid × AwaitsEntries mid × (later ≡ next_order nodes next)
    × IsRound (next_node nodes next) mid new

-- A round of node n begins at this moment, in which the schedule gets as many events as it can have: by some of its deeds, from the
-- first on, or by all that come before its turn, and by events of the turn, which is refused.
pub record FillsAt (n : ℕ) (moment : Moment) : Type 0 where
  pub driver : DriverOf
  pub node : NodeOf
  pub result : Result Round AllocError
  pub deeds : List Deed
  pub goes : (d : DriverOf) → IsOpenRound deeds (driver_at moment n d) driver (node_at moment.core n) node result
  pub fills : Fills n deeds (policy_at moment n) (course_at moment) ⊎ (IsErr result × FillsTurning n deeds (policy_at moment n) (course_at moment))

-- the schedule has no room for fewer than this many rounds and what comes then
pub record HasNoRoom (nodes turns : ℕ) (order : Order) (first : Moment) : Type 0 where
  pub rounds : ℕ
  pub fewer : rounds < turns
  pub next : Order
  pub moment : Moment
  pub played : Played nodes rounds order first next moment
  pub goes_on : AwaitsEntries moment
  pub fills : FillsAt (next_node nodes next) moment

-- A run begins: the machine is new, with room for as many operations as each node has in the script at least; nothing is
-- submitted, and the policies remember nothing.
pub record Begins (script : ScriptValue) (issuing : Issuing) (first : Moment) : Type 0 where
  pub limit : ℕ
  pub some : 1 ≤ limit
  pub most : limit ≤ MAX_OPERATIONS
  pub room : (node : ℕ) → node < script.nodes → length (operations_of node script.operations) ≤ limit
  pub core : first.core ≡ opening (with_limit limit (size_for script))
  pub none : first.events ≡ []
  pub many : length first.drivers ≡ script.nodes
  pub drivers : (node : ℕ) (d : DriverOf) → node < script.nodes → driver_at first node d ≡ opening_driver (operations_of node script.operations) issuing
  pub policies : (node : ℕ) → policy_at first node ≡ opening_policy

-- The events of the schedule are those of this many rounds by the policy, in their order: they begin anew, and lead to the state
-- behind the schedule. Done, each operation has its entry at their end, and else some operation has none.
pub record IsPlayed (script : ScriptValue) (issuing : Issuing) (seed : Option ℕ) (rounds : ℕ) (done : Bool) (schedule : ScheduleValue) : Type 0 where
  pub first : Moment
  pub begins : Begins script issuing first
  pub order : Order
  pub last : Moment
  pub played : Played script.nodes rounds (first_order seed) first order last
  pub ends : (done ≡ true) ↔ All IsAnswered last.drivers
  pub events : schedule.events ≡ last.events
  pub behind : run (size_for script) schedule.events ≡ raised MAX_OPERATIONS last.core

-- The run of a script by the policy makes as many events as a schedule can have before it has taken this many turns: some
-- rounds, and what the next node does.
pub record IsTooLong (script : ScriptValue) (issuing : Issuing) (seed : Option ℕ) (turns : ℕ) : Type 0 where
  pub first : Moment
  pub begins : Begins script issuing first
  pub full : HasNoRoom script.nodes turns (first_order seed) first
