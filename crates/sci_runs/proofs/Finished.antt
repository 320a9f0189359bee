-- A run is done in time: at its start two things are left to do for each operation, and no more.
use Rattle.std.proofs.Common.{◌≡◌, ◌≤◌, ◌+◌, ◌-◌, ◌*◌, ◌==◌, ℕ, zero, suc, Bool, true, false, arith, cond, List, [], ◌∷◌, length, filter}
use Rattle.std.proofs.Common.{Option, None, refl, sym, ap, subst, ◌∙◌, inl, inr}
use Rattle.std.proofs.Math.Nat.{mul-le-mul_right}
use Rattle.std.proofs.lemmas.{Bool.{cases_eq, eq-eqb, ne_eqb}, List.{length-map, Sums.{length-filter, sum_by-cons}}}
use Rattle.sci_words.specs.declared.operation.Op.{Op}
use Rattle.sci_text.specs.{Schedule.{ScheduleValue}, Script.{IsScript, ScriptValue, count_of, operations_of}}
use Rattle.sci_core.specs.Size.{IsMachineSize}
use Rattle.sci_fair.specs.{Steady.{HasWindows, WorksByTurns}, Steps.{most_changes}}
use Rattle.sci_fair.proofs.{Ahead.{windows_on}, Descents.{windows_fewer}, Sums.{sum_double, sum_plus, sum_to, sum_zero}, Works.{opening_works}}
use Rattle.sci_drive.specs.{declared.driver.Issuing.{Issuing}, Driving.{DriverOf}, ScriptLogs.{size_for}}
use Rattle.sci_runs.specs.{Played.{Begins, IsPlayed, Moment, driver_at}, Recorded.{with_limit}, Turns.{finishing_windows, first_order, order_after, turns_in}}
use Rattle.sci_runs.proofs.{Circles.{turns_both}, Ending.{first_stands, no_driver, not_done}, Finishing.{circle_windows, ends_before, left, played_turns}}

-- ---- each operation is one node's

no_one : (p nodes : ℕ) → nodes ≤ p → sum_to (λ n. cond (p == n) 1 0) nodes ≡ 0
no_one p zero le = refl
no_one p (suc nodes) le =
    let rest = no_one p nodes (omega (arith, le)) in
    let last : cond {A = ℕ} (p == nodes) 1 0 ≡ 0 = ap (λ (b : Bool). cond {A = ℕ} b 1 0) (ne_eqb p nodes (λ same. absurd (omega (arith, le, same)))) in
    omega (arith, rest, last)

at_most_one : (p nodes : ℕ) → sum_to (λ n. cond (p == n) 1 0) nodes ≤ 1
at_most_one p zero = omega arith
at_most_one p (suc nodes) = elim (cases_eq p nodes) [
  | inl same ↦
      let rest = no_one p nodes (omega (arith, same)) in
      let last : cond {A = ℕ} (p == nodes) 1 0 ≡ 1 = ap (λ (b : Bool). cond {A = ℕ} b 1 0) (eq-eqb p nodes same) in
      omega (arith, rest, last)
  | inr apart ↦
      let rest = at_most_one p nodes in
      let last : cond {A = ℕ} (p == nodes) 1 0 ≡ 0 = ap (λ (b : Bool). cond {A = ℕ} b 1 0) (ne_eqb p nodes apart) in
      omega (arith, rest, last)
]

counts_within : (nodes : ℕ) (operations : List (ℕ × Op)) → sum_to (λ n. count_of n operations) nodes ≤ length operations
counts_within nodes [] = (let none = sum_zero (λ n. count_of n []) nodes (λ n. refl) in omega (arith, none))
counts_within nodes (p ∷ operations) =
    let one = at_most_one p.0 nodes in
    let rest = counts_within nodes operations in
    let both = sum_plus (λ n. cond (p.0 == n) 1 0) (λ n. count_of n operations) (λ n. count_of n (p ∷ operations)) nodes
    (λ n. sum_by-cons (λ (q : ℕ × Op). cond {A = ℕ} (q.0 == n) 1 0) p operations) in
    omega (arith, one, rest, both)

own_long : (n : ℕ) (operations : List (ℕ × Op)) → length (operations_of n operations) ≡ count_of n operations
own_long n operations =
    length-map (filter (λ (p : ℕ × Op). p.0 == n) operations) (λ (p : ℕ × Op). p.1) ∙ length-filter (λ (p : ℕ × Op). p.0 == n) operations

-- ---- at the start

left_first : (script : ScriptValue) (good : IsScript script) (issuing : Issuing) (first : Moment) (begins : Begins script issuing first)
    → left script good begins.limit begins.room first ≤ 2 * length script.operations
left_first script good issuing first begins =
    let counts = counts_within script.nodes script.operations in
    let twice : left script good begins.limit begins.room first ≤ 2 * sum_to (λ n. count_of n script.operations) script.nodes =
    sum_double _ (λ n. count_of n script.operations) script.nodes (λ n some.
    (let is = begins.drivers n no_driver some in
    let own = own_long n script.operations in
    let next : (driver_at first n no_driver).next ≡ 0 = ap (λ (d : DriverOf). d.next) is in
    let none : length (driver_at first n no_driver).pending ≡ 0 = ap (λ (d : DriverOf). length d.pending) is in
    omega (arith, own, next, none))) in
    omega (arith, counts, twice)

-- ---- a run

-- one that isn't done has had fewer windows
pub finishes : (script : ScriptValue) (issuing : Issuing) (seed : Option ℕ) (rounds : ℕ) (done : Bool) (schedule : ScheduleValue) → IsScript script
    → IsPlayed script issuing seed rounds done schedule
    → HasWindows script.nodes (finishing_windows script) (turns_in script.nodes rounds (first_order seed)) → done ≡ true
finishes script issuing seed rounds true schedule good played windows = refl
finishes script issuing seed rounds false schedule good played windows =
    let begins = played.begins in
    let first = played.first in
    let nodes = script.nodes in
    let stands = first_stands script issuing first good begins in
    let sized : IsMachineSize (with_limit begins.limit (size_for script)) =
    record { extent = good.size; some_operation = begins.some; few_operations = begins.most } in
    let works : WorksByTurns first.core = subst WorksByTurns (sym begins.core) (opening_works (with_limit begins.limit (size_for script)) sized) in
    let turns = played_turns script good begins.limit begins.room rounds (first_order seed) played.order first played.last stands works played.played in
    let some = left_first script good issuing first begins in
    let each = most_changes (size_for script) + 1 in
    let fewer : (left script good begins.limit begins.room first + 1) * each * 1253 ≤ finishing_windows script =
    mul-le-mul_right 1253 (mul-le-mul_right each (omega (arith, some))) in
    absurd (ends_before script good begins.limit begins.room (turns_in nodes rounds (first_order seed)) first played.last stands works turns
    (windows_fewer nodes _ (finishing_windows script) (turns_in nodes rounds (first_order seed)) fewer windows)
    (not_done false played.last played.ends refl))

-- in a circle each window is one turn of each node
pub circle_finishes : (script : ScriptValue) (issuing : Issuing) (seed : Option ℕ) (rounds turns : ℕ) (done : Bool) (schedule : ScheduleValue)
    → IsScript script → IsPlayed script issuing seed rounds done schedule → seed ≡ None → finishing_windows script * script.nodes ≤ turns
    → (done ≡ false → rounds ≡ turns) → done ≡ true
circle_finishes script issuing seed rounds turns true schedule good played none enough all = refl
circle_finishes script issuing seed rounds turns false schedule good played none enough all =
    let nodes = script.nodes in
    let order = first_order seed in
    let circle = circle_windows nodes (finishing_windows script) order (0, ap first_order none) in
    let used = all refl in
    let more = rounds - finishing_windows script * nodes in
    let both = turns_both nodes more (finishing_windows script * nodes) rounds order (omega (arith, enough, used)) in
    finishes script issuing seed rounds false schedule good played
    (subst (HasWindows nodes (finishing_windows script)) (sym both)
    (windows_on nodes (finishing_windows script) (turns_in nodes (finishing_windows script * nodes) order)
    (turns_in nodes more (order_after nodes (finishing_windows script * nodes) order)) circle))
