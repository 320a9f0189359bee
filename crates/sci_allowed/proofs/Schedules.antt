-- The schedule that leads to a standing where a run ends is that of a run, and has ten events for each operation.
use Rattle.std.proofs.Common.{◌≡◌, ℕ, ◌*◌, ◌<◌, List, [], length, map, get_or, Result, Ok, Err, sym, ap, subst, ◌∙◌, arith}
use Rattle.std.specs.{List.{Any}, Prelude.{IfOk}}
use Rattle.sci_words.specs.declared.{event.Event.{Event}, extent.Extent.{Extent}, limits.TheConstants.{MAX_EVENTS}}
use Rattle.sci_text.specs.{Schedule.{AreEventsWithin, IsSchedule, ScheduleValue}, Script.{IsScript, ScriptValue}}
use Rattle.sci_core.specs.Size.{IsMachineSize, Size}
use Rattle.sci_drive.specs.ScriptLogs.{size_for}
use Rattle.sci_orders.proofs.{Following.{opening_order, order_leads}, Turns.{order_seen}, Ways.{holds_at}}
use Rattle.sci_orders.specs.Orders.{HasRun, IsOrderOf, IsScriptOf}
use Rattle.sci_orders.specs.Positions.{IsReachedIn, Operations, Position, opening_position, operation_count, position_of}
use Rattle.sci_orders.specs.{Ways.{IsWayTo}, Witness.{schedule_of, seen}, declared.standing.Standing.{Standing}}
use Rattle.sci_orders.proofs.Keeping.{map_contains}
use Rattle.sci_allowed.proofs.{Allowing.{seen_at_end}, Shares.{share_within}, Tens.{shares_few, ten_each}, Within.{schedule_within, way_within}}
use Rattle.sci_allowed.specs.Allowed.{HaveRuns, IsAllowed, IsLitmus, IsRunTo, IsScheduleTo, IsTooLong, seen_at, shares_of}
use Rattle.sci_allowed.specs.{Outcome.{shown_of}, declared.{fault.AllowedFault.{AllowedFault}, litmus.Litmus.{Litmus}, outcome.Outcome.{Outcome}}}

-- a schedule of a way to a position
abbrev pub IsOfWay : Size → Operations → (window : ℕ) → Position → List Event → Type 0
IsOfWay size operations window p schedule = (order : List Event) × IsWayTo size.lines operations window p order × (schedule ≡ schedule_of size order)

module _ (script : ScriptValue) (window : ℕ) (p : Position) (schedule : List Event) (good : IsScript script)
    (way : IsOfWay (size_for script) (shares_of script) window p schedule) where
  pub events_within : AreEventsWithin script.nodes script.lines schedule
  events_within =
      let first = opening_position script.lines (shares_of script) in
      subst (AreEventsWithin script.nodes script.lines) (sym way.2) (schedule_within (size_for script) good.size.has_node way.0
      (way_within script.nodes script.lines (shares_of script) (share_within script good) window first p way.0 way.1.leads))

  pub too_long : IsMachineSize (size_for script) → IsScriptOf (size_for script) (shares_of script)
      → HasRun (size_for script) (shares_of script) window p schedule → MAX_EVENTS < length schedule → IsTooLong script
  too_long sizes known has many =
      let size = size_for script in
      let operations = shares_of script in
      let order = way.0 in
      let led = order_leads size operations window 0 (opening_position script.lines operations) p [] order known (opening_order size operations window known)
      way.1.leads in
      let seen_is : seen size schedule ≡ order = ap (seen size) way.2 ∙ order_seen size order sizes led.allowed in
      let ten = ten_each size operations window order (subst (IsOrderOf operations window) seen_is has.runs) in
      let few = shares_few script in
      let long : length schedule ≡ length (schedule_of size order) = ap (λ (es : List Event). length es) way.2 in
      omega arith

-- some standing has an outcome of a run
pub some_standing : (litmus : Litmus) (window : ℕ) (standings : List Standing) (outcome : Outcome) → IsLitmus litmus
    → HaveRuns (size_for litmus.script) (shares_of litmus.script) window (map position_of standings) → IsAllowed litmus.script window (shown_of outcome)
    → Any (λ standing. shown_of outcome ≡ seen_at litmus.script (position_of standing)) standings
some_standing litmus window standings outcome good has allowed =
    let at = map_contains (λ (s : Standing). seen_at litmus.script (position_of s)) standings (shown_of outcome)
    (seen_at_end litmus window standings good has (shown_of outcome) allowed) in
    (at.1.0, at.0, at.1.1, at.1.2, sym at.2)

-- two steps of each operation lead to a standing where a run ends
pub reached_at : (script : ScriptValue) (window : ℕ) (standings : List Standing) (place : ℕ) (standing : Standing)
    → HaveRuns (size_for script) (shares_of script) window (map position_of standings) → place < length standings → standing ≡ get_or standings place standing
    → IsReachedIn script.lines (shares_of script) window (operation_count (shares_of script) * 2) (position_of standing)
reached_at script window standings place standing has lt at =
    holds_at (IsReachedIn script.lines (shares_of script) window (operation_count (shares_of script) * 2)) standings place standing lt at has.reached.each

-- ---- the schedule

abbrev schedule_value : Extent → List Event → ScheduleValue
schedule_value extent events = record { nodes = extent.nodes; lines = extent.lines; slots = extent.slots; events = events }

pub schedule_is : (script : ScriptValue) (window : ℕ) (outcome : Outcome) (extent : Extent) (events : List Event) (made : Result ScheduleValue AllowedFault)
    → extent.nodes ≡ script.nodes → extent.lines ≡ script.lines → extent.slots ≡ script.slots → IfOk made (λ schedule. schedule ≡ schedule_value extent events)
    → IfOk made IsSchedule → IsRunTo script window (shown_of outcome) events → IfOk made (IsScheduleTo script window outcome)
schedule_is script window outcome extent events (Ok schedule) nodes lines slots is good run = grind arith
schedule_is script window outcome extent events (Err fault) nodes lines slots is good run = tt
