-- The positions that are reached are the outcomes of the machine's runs of a script.
use Rattle.std.proofs.Common.{◌≡◌, ℕ, ◌+◌, ◌*◌, List, [], ◌++◌, length, drop, refl, sym, ap, subst, ◌∙◌, arith}
use Rattle.std.proofs.lemmas.List.{append-nil, drop_all}
use Rattle.std.specs.{List.{All}, Prelude.{count_by}}
use Rattle.sci_words.specs.declared.{event.Event.{Event}, operation.Op.{Op}, stamped.Stamped.{Stamped}}
use Rattle.sci_history.specs.declared.entry.Entry.{Entry}
use Rattle.sci_core.{proofs.WellFormed.WellFormedSteps.{is_size}, specs.{Core.{opening, run}, Done.{done}, Settling.{AreMade}, Sharing.{last_of}}}
use Rattle.sci_core.specs.Size.{Size, IsMachineSize, IsSize}
use Rattle.sci_orders.proofs.{Following.{IsOrderFor, follows, opening_order, order_for, order_leads}, Progress.{AreAnswered, all_answered}, Sound.{explained}}
use Rattle.sci_orders.proofs.{Stands.{Stands, none_first, opening_stands, within}, Turns.{order_made, order_seen}}
use Rattle.sci_orders.specs.{Orders.{HasRun, IsAmong, IsOrderOf, IsOutcomeOf, IsScriptOf, issues_at}, Plain.{Plain, opening_plain, plain_done, plain_run}}
use Rattle.sci_orders.specs.Positions.{AreReachedIn, IsReachedIn, Operations, Position, answers_of, is_waiting, opening_position, operation_count, own_of}
use Rattle.sci_orders.specs.{Ways.{IsWayTo}, Witness.{any_event, schedule_of, seen}, declared.standing.Answer.{Answer}}

outcome_of : (size : Size) (operations : Operations) (plain : Plain) (entries : List Entry) (p : Position) → Stands size operations plain entries p
    → AreAnswered operations p → IsOutcomeOf size operations entries plain.contents p
outcome_of size operations plain entries p stands all = grind arith

-- ---- each run ends in a position that is reached

pub runs_reached : (size : Size) (operations : Operations) (window : ℕ) (schedule : List Event) → IsSize size → IsScriptOf size operations
    → IsOrderOf operations window (seen size schedule)
    → (p : Position) × IsReachedIn size.lines operations window (operation_count operations * 2) p
    × IsOutcomeOf size operations (done size schedule) (last_of (run size schedule)) p
runs_reached size operations window schedule sizes known runs =
    let sound = explained size schedule sizes in
    let order = seen size schedule in
    let first = opening_plain size in
    let start = opening_position size.lines operations in
    let none : (n : ℕ) → answers_of start n ≡ [] = λ n. none_first size.lines operations n in
    let followed = follows size operations window order known first [] start 0 (λ n. 0) (opening_stands size operations known) sound.allowed
    (λ n. runs.issued n ∙ sym (ap (λ (as_ : List Answer). drop (length as_) (own_of operations n)) (none n))) runs.few
    (λ n. sym (ap (λ (as_ : List Answer). count_by is_waiting as_) (none n))) refl in
    let whole = runs.whole in
    let count : 0 + length order ≡ operation_count operations * 2 = omega arith in
    let p = followed.last in
    let reached : IsReachedIn size.lines operations window (operation_count operations * 2) p =
    subst (λ (k : ℕ). IsReachedIn size.lines operations window k p) count followed.reached in
    let outcome = outcome_of size operations (plain_run first order) (plain_done first order) p followed.stands
    (all_answered size.lines operations window p (within size operations known) reached) in (
      p,
      reached,
      subst (λ (es : List Entry). IsOutcomeOf size operations es (last_of (run size schedule)) p) (sym sound.done)
          (subst (λ (c : List Stamped). IsOutcomeOf size operations (plain_done first order) c p) (sym sound.last) outcome),
    )

-- ---- and each such position is the end of a run

pub way_runs : (size : Size) (operations : Operations) (window : ℕ) (p : Position) (order : List Event) → IsMachineSize size → IsScriptOf size operations
    → IsReachedIn size.lines operations window (operation_count operations * 2) p
    → IsOrderFor size operations window (operation_count operations * 2) p order → HasRun size operations window p (schedule_of size order)
way_runs size operations window p order sizes known reached way =
    let schedule = schedule_of size order in
    let first = opening_plain size in
    let seen_is = order_seen size order sizes way.allowed in
    let sound = explained size schedule (is_size size sizes) in
    let all = all_answered size.lines operations window p (within size operations known) reached in
    let outcome = outcome_of size operations (plain_run first order) (plain_done first order) p way.stands all in
    let entries : done size schedule ≡ plain_done first order = sound.done ∙ ap (plain_done first) seen_is in
    let contents : last_of (run size schedule) ≡ (plain_run first order).contents =
    sound.last ∙ ap (λ (o : List Event). (plain_run first o).contents) seen_is in
    record {
      runs = subst (IsOrderOf operations window) (sym seen_is) (record {
        issued = λ n. sym (append-nil (issues_at n order))
            ∙ (ap (λ (ops : List Op). issues_at n order ++ ops) (sym (drop_all (length (answers_of p n)) (own_of operations n) (
            let same = all.issued n in omega arith))) ∙ way.issued n);
        few = way.few;
        whole = way.long;
      });
      outcome = subst (λ (es : List Entry). IsOutcomeOf size operations es (last_of (run size schedule)) p) (sym entries)
          (subst (λ (c : List Stamped). IsOutcomeOf size operations (plain_done first order) c p) (sym contents) outcome);
    }

pub reached_runs : (size : Size) (operations : Operations) (window : ℕ) (p : Position) → IsMachineSize size → IsScriptOf size operations
    → IsReachedIn size.lines operations window (operation_count operations * 2) p → (schedule : List Event) × HasRun size operations window p schedule
reached_runs size operations window p sizes known reached =
    let way = order_for size operations window (operation_count operations * 2) p known reached in
    (schedule_of size way.0, way_runs size operations window p way.0 sizes known reached way.1)

-- ---- a way is that of a run

way_order : (size : Size) (operations : Operations) (window : ℕ) (p : Position) (order : List Event) → IsScriptOf size operations
    → IsWayTo size.lines operations window p order → IsOrderFor size operations window (operation_count operations * 2) p order
way_order size operations window p order known way =
    let whole = way.long in
    let count : 0 + length order ≡ operation_count operations * 2 = omega arith in
    subst (λ (k : ℕ). IsOrderFor size operations window k p order) count
    (order_leads size operations window 0 (opening_position size.lines operations) p [] order known (opening_order size operations window known) way.leads)

pub way_has_run : (size : Size) (operations : Operations) (window : ℕ) (p : Position) (order : List Event) → IsMachineSize size → IsScriptOf size operations
    → IsReachedIn size.lines operations window (operation_count operations * 2) p → IsWayTo size.lines operations window p order
    → HasRun size operations window p (schedule_of size order)
way_has_run size operations window p order sizes known reached way =
    way_runs size operations window p order sizes known reached (way_order size operations window p order known way)

pub way_made : (size : Size) (operations : Operations) (window : ℕ) (p : Position) (order : List Event) → IsMachineSize size → IsScriptOf size operations
    → IsWayTo size.lines operations window p order → AreMade any_event (opening size) (schedule_of size order)
way_made size operations window p order sizes known way = order_made size order sizes (way_order size operations window p order known way).allowed

-- ---- all of them

pub each_has_run : (size : Size) (operations : Operations) (window : ℕ) (positions : List Position) → IsMachineSize size → IsScriptOf size operations
    → AreReachedIn size.lines operations window (operation_count operations * 2) positions
    → All (λ p. (schedule : List Event) × HasRun size operations window p schedule) positions
each_has_run size operations window positions sizes known so = grind (arith, reached_runs)

pub each_run_among : (size : Size) (operations : Operations) (window : ℕ) (positions : List Position) (schedule : List Event) → IsMachineSize size
    → IsScriptOf size operations → AreReachedIn size.lines operations window (operation_count operations * 2) positions
    → IsOrderOf operations window (seen size schedule) → IsAmong size operations schedule positions
each_run_among size operations window positions schedule sizes known so runs = grind (arith, runs_reached)
