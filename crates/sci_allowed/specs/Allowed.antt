-- The outcomes that runs of a script can have.
use Rattle.std.specs.Prelude.{◌≡◌, ◌<◌, ◌≤◌, ◌*◌, ◌↔◌, ◌⊎◌, ℕ, Bool, true, List, length, map}
use Rattle.std.specs.List.{All, Any, list_any, range_with_len, Sorted.{IsStrictlySortedBy}}
use Rattle.sci_words.specs.declared.{event.Event.{Event}, limits.TheConstants.{MAX_EVENTS, MAX_OPERATIONS}}
use Rattle.sci_text.specs.{declared.fault.TextFaultKind.{TextFaultKind}, Schedule.{IsSchedule, ScheduleValue}, Script.{IsScript, ScriptValue, operations_of}}
use Rattle.sci_core.specs.Size.{Size}
use Rattle.sci_drive.specs.ScriptLogs.{size_for}
use Rattle.sci_orders.specs.Orders.{HasRun, IsAmong, IsOrderOf}
use Rattle.sci_orders.specs.{Eager.{AreTooMany}, Positions.{AreReachedIn, Operations, Position, lists_of, operation_count, position_of}}
use Rattle.sci_orders.specs.{Witness.{seen}, declared.{fault.OrdersFault.{OrdersFault}, standing.Standing.{Standing}}}
use Rattle.sci_allowed.specs.declared.{fault.AllowedFault.{AllowedFault}, litmus.Litmus.{Litmus}, outcome.Outcome.{Outcome}, rows.AllowedRow.{AllowedRow}}
use Rattle.sci_allowed.specs.Outcome.{IsPlaceWithin, Shown, outcome_cmp, shown_at, shown_of, written_places}
use Rattle.sci_allowed.specs.contracts.outcome.OutcomePartialEq.TheImpl as TheEquality
use Rattle.sci_orders.specs.declared.fault.OrdersFault.TheVariants as orders
use Rattle.sci_allowed.specs.declared.fault.AllowedFault.TheVariants as fault
use Rattle.sci_text.specs.declared.fault.TextFaultKind.TheVariants as kinds

-- each node's operations, in their order
abbrev pub shares_of : ScriptValue → Operations
shares_of script = map (λ node. operations_of node script.operations) (range_with_len 0 script.nodes)

-- what is seen of a run of the script that ends here
abbrev pub seen_at : ScriptValue → Position → Shown
seen_at script p = shown_at (shares_of script) (written_places script.lines script.operations) p

-- a schedule is a run of the script, with at most this number of operations waiting at a node, and this is seen of it
pub record IsRunTo (script : ScriptValue) (window : ℕ) (shown : Shown) (schedule : List Event) : Type 0 where
  pub position : Position
  pub run : HasRun (size_for script) (shares_of script) window position schedule
  pub is : shown ≡ seen_at script position

-- some run of the script ends with the outcome
abbrev pub IsAllowed : ScriptValue → (window : ℕ) → Shown → Type 0
IsAllowed script window shown = (schedule : List Event) × IsRunTo script window shown schedule

-- all outcomes of the runs of the script, sorted, each once
pub record AreAllowed (script : ScriptValue) (window : ℕ) (outcomes : List Outcome) : Type 0 where
  pub each : All (λ outcome. IsAllowed script window (shown_of outcome)) outcomes
  pub all : (shown : Shown) → IsAllowed script window shown → Any (λ outcome. shown_of outcome ≡ shown) outcomes
  pub sorted : IsStrictlySortedBy outcome_cmp outcomes

-- the same with whether a run can have the outcome in which each node goes in order
pub record AreRows (script : ScriptValue) (window : ℕ) (rows : List AllowedRow) : Type 0 where
  pub outcomes : AreAllowed script window (map (λ row. row.outcome) rows)
  pub tags : All (λ row. (row.in_order ≡ true) ↔ IsAllowed script 1 (shown_of row.outcome)) rows

-- the schedule is one of the script's machine, and a run that ends with the outcome
pub record IsScheduleTo (script : ScriptValue) (window : ℕ) (outcome : Outcome) (schedule : ScheduleValue) : Type 0 where
  pub good : IsSchedule schedule
  pub nodes : schedule.nodes ≡ script.nodes
  pub lines : schedule.lines ≡ script.lines
  pub slots : schedule.slots ≡ script.slots
  pub run : IsRunTo script window (shown_of outcome) schedule.events

-- a schedule with one event for each Issue and nine for each Perform has too many events
abbrev pub IsTooLong : ScriptValue → Type 0
IsTooLong script = MAX_EVENTS < length script.operations * 10

-- some number of steps of a search leads to more positions than are looked at, with this window or in order
abbrev pub IsTooBig : ScriptValue → (window : ℕ) → Type 0
IsTooBig script window = AreTooMany script.lines (shares_of script) window ⊎ AreTooMany script.lines (shares_of script) 1

-- ---- inside

abbrev pub fault_of : OrdersFault → AllowedFault
fault_of orders.Memory = fault.Memory
fault_of orders.TooMany = fault.TooMany

-- what kind of fault of the input it is
abbrev pub kind_of : AllowedFault → TextFaultKind
kind_of fault.Memory = kinds.Memory
kind_of fault.TooMany = kinds.TooMany
kind_of fault.TooLong = kinds.TooMany
kind_of (fault.NoRow rows) = kinds.Range

-- a script, with each node's operations and the words that it may write
pub record IsLitmus (litmus : Litmus) : Type 0 where
  pub good : IsScript litmus.script
  pub shares : lists_of litmus.operations.items ≡ shares_of litmus.script
  pub few : All (λ own. length own.items ≤ MAX_OPERATIONS) litmus.operations.items
  pub places : litmus.places.items ≡ written_places litmus.script.lines litmus.script.operations
  pub within : All (IsPlaceWithin litmus.script.lines) litmus.places.items

-- these positions are where the runs of a script of the machine end
pub record HaveRuns (size : Size) (operations : Operations) (window : ℕ) (positions : List Position) : Type 0 where
  pub reached : AreReachedIn size.lines operations window (operation_count operations * 2) positions
  pub each : All (λ p. (schedule : List Event) × HasRun size operations window p schedule) positions
  pub all : (schedule : List Event) → IsOrderOf operations window (seen size schedule) → IsAmong size operations schedule positions

-- these outcomes are seen where runs end
abbrev pub AreSeenAt : ScriptValue → List Standing → List Outcome → Type 0
AreSeenAt script standings outcomes = map shown_of outcomes ≡ map (λ standing. seen_at script (position_of standing)) standings

-- whether one of the outcomes is found equal to another
abbrev pub is_among : List Outcome → Outcome → Bool
is_among outcomes outcome = list_any (λ other. (TheEquality.ghosts).eq other outcome) outcomes

-- the rows of the outcomes, where these are those of runs in order
abbrev pub rows_of : (outcomes in_order : List Outcome) → List AllowedRow
rows_of outcomes in_order = map (λ outcome. record { outcome = outcome; in_order = is_among in_order outcome }) outcomes
