-- What is seen of a run is an outcome that a run of the script can have.
use Rattle.std.proofs.Common.{◌≡◌, ◌==◌, ◌<◌, ◌≤◌, ℕ, List, [], length}
use Rattle.std.proofs.Common.{All, sym, ap, subst, arith, inl, inr}
use Rattle.std.proofs.lemmas.{Bool.{cases_lt}, List.{length-map, Sums.{length-filter}}}
use Rattle.std.specs.{List.{AllByRecursion, filter}}
use Rattle.sci_words.specs.declared.{event.Event.{Event}, limits.TheConstants.{MAX_OPERATIONS}, operation.Op.{Op}, stamped.Stamped.{Stamped}}
use Rattle.sci_history.specs.{declared.entry.Entry.{Entry}, Placed.{log_of}}
use Rattle.sci_text.specs.Script.{IsScript, ScriptValue, operations_of}
use Rattle.sci_core.proofs.WellFormed.WellFormedSteps.{is_size}
use Rattle.sci_core.specs.{Core.{AreEnabled, node_of, run}, Outcome.{logs_of}, Sharing.{last_of}, Size.{IsSize}}
use Rattle.sci_policy.specs.Deeds.{Deed}
use Rattle.sci_drive.specs.{declared.driver.Issuing.{Issuing}, Rounds.{most_pending}, Script.{times_answered}, ScriptLogs.{HaveWholeLogsOf, size_for}}
use Rattle.sci_orders.proofs.{ByNode.{IsPart, is_order, nodes_enabled, own_events, seen_enabled}, Exactly.{runs_reached}}
use Rattle.sci_orders.specs.{Orders.{IsOrderOf, IsScriptOf}, Positions.{own_of}, Witness.{is_seen, seen}}
use Rattle.sci_allowed.proofs.{Litmuses.{share_count}, Shares.{is_script, machine_size, no_share, own_is_share}}
use Rattle.sci_allowed.specs.{Allowed.{IsAllowed, shares_of}, Outcome.{IsPlaceWithin, shown_of, written_places}}
use Rattle.sci_outcomes.proofs.{NodeWorks.{IsDriven, part_of, works_by}, SeenOutcome.{shown_is}, TurnsAreQuiet.{works}}
use Rattle.sci_outcomes.specs.{declared.outcome.Sighting.{Sighting}, Outcomes.{IsSeen}}

-- each node has gone through its operations of the script, by these events of the schedule
abbrev pub AreDriven : ScriptValue → Issuing → List Event → Type 0
AreDriven script issuing schedule = (n : ℕ) → n < script.nodes
    → (deeds : List Deed) × IsDriven issuing (operations_of n script.operations) deeds × (works n schedule ≡ works_by n deeds)

module _ (script : ScriptValue) (good : IsScript script) where
  sizes : IsSize (size_for script)
  sizes = is_size (size_for script) (machine_size script good)

  own_count : (n : ℕ) → length (own_of (shares_of script) n) ≤ MAX_OPERATIONS
  own_count n = elim (cases_lt n script.nodes) [
    | inl lt ↦
        let test = λ (p : ℕ × Op). p.0 == n in
        let same = ap (λ (own : List Op). length own) (own_is_share script n lt) in
        let mapped = length-map (filter test script.operations) (λ (p : ℕ × Op). p.1) in
        let kept = length-filter test script.operations in
        let few = good.counts n lt in
        omega (arith, same, mapped, kept, few)
    | inr past ↦ let none = ap (λ (own : List Op). length own) (no_share script n past) in omega (arith, none)
  ]

  operations_good : IsScriptOf (size_for script) (shares_of script)
  operations_good = is_script script good own_count

  -- the schedule is a run of the script
  order_of : (issuing : Issuing) (schedule : List Event) → AreEnabled (size_for script) [] schedule → AreDriven script issuing schedule
      → IsOrderOf (shares_of script) (most_pending issuing) (seen (size_for script) schedule)
  order_of issuing schedule enabled driven =
      let operations = shares_of script in
      let nodes : length operations ≡ script.nodes = share_count script in
      let part : (n : ℕ) → n < length operations → IsPart operations (most_pending issuing) n (own_events n (filter is_seen schedule)) = λ n lt. (
      let below : n < script.nodes = omega (arith, lt, nodes) in
      let does = driven n below in
      part_of operations n issuing does.0 schedule
      (subst (λ (own : List Op). IsDriven issuing own does.0) (sym (own_is_share script n below)) does.1) does.2) in
      subst (IsOrderOf operations (most_pending issuing)) (sym (seen_enabled (size_for script) schedule enabled))
      (is_order operations (most_pending issuing) (filter is_seen schedule)
      (subst (λ (k : ℕ). AllByRecursion (λ (e : Event). node_of e < k) (filter is_seen schedule)) (sym nodes)
      (nodes_enabled (size_for script) schedule sizes enabled)) part)

  pub run_allowed : (issuing : Issuing) (schedule : List Event) (logs : List (List Entry)) (last : List Stamped) (sighting : Sighting)
      → AreEnabled (size_for script) [] schedule → AreDriven script issuing schedule
      → logs ≡ logs_of (run (size_for script) schedule) → last ≡ last_of (run (size_for script) schedule) → HaveWholeLogsOf script logs
      → All (IsPlaceWithin script.lines) (written_places script.lines script.operations)
      → IsSeen (written_places script.lines script.operations) logs last sighting
      → IsAllowed script (most_pending issuing) (shown_of sighting.outcome)
  run_allowed issuing schedule logs last sighting enabled driven logs_are last_are whole within is =
      let size = size_for script in
      let operations = shares_of script in
      let places = written_places script.lines script.operations in
      let runs = order_of issuing schedule enabled driven in
      let reached = runs_reached size operations (most_pending issuing) schedule sizes operations_good runs in
      let nodes : length operations ≡ script.nodes = share_count script in
      let limit = good.size.few_nodes in
      let behind = subst (λ (ls : List (List Entry)). HaveWholeLogsOf script ls) logs_are whole in
      let once : (n k : ℕ) → n < length operations → k < length (own_of operations n) → times_answered k (log_of (logs_of (run size schedule)) n) ≡ 1 =
      λ n k lt below. (
      let low : n < script.nodes = omega (arith, lt, nodes) in
      (behind n low).each k (subst (λ (own : List Op). k < length own) (own_is_share script n low) below)) in
      let here = subst (λ (l : List Stamped). IsSeen places (logs_of (run size schedule)) l sighting) last_are
      (subst (λ (ls : List (List Entry)). IsSeen places ls last sighting) logs_are is) in (
        schedule,
        record {
          position = reached.0;
          run = record { runs = runs; outcome = reached.2 };
          is = shown_is size operations schedule reached.0 sizes reached.2 (omega (arith, nodes, limit)) once places sighting within here;
        },
      )
