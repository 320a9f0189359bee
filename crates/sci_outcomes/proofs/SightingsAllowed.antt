-- Each outcome that is seen is one that a run of the script can have.
use Rattle.std.proofs.Common.{◌≡◌, ◌<◌, ◌≤◌, ◌+◌, true, List, [], ◌∷◌, length, All, refl, sym, ap, subst, ◌∙◌, arith}
use Rattle.std.proofs.lemmas.List.{Elements.{recursion_from_All}, Sums.{length-filter}}
use Rattle.std.specs.{List.{AllByRecursion, filter}, Prelude.{Some}}
use Rattle.sci_history.proofs.Order.{all-filter, all-passes}
use Rattle.sci_words.specs.declared.limits.TheConstants.{MAX_TURNS}
use Rattle.sci_text.specs.Script.{IsScript, ScriptValue, operations_of}
use Rattle.sci_core.specs.{Core.{Core}, Outcome.{logs_of}, Sharing.{last_of}, Size.{Size}}
use Rattle.sci_drive.specs.{declared.driver.Issuing.{Issuing}, Rounds.{most_pending}}
use Rattle.sci_runs.specs.Runs.{last_behind, logs_behind}
use Rattle.sci_allowed.proofs.Sameness.{same_outcome}
use Rattle.sci_allowed.specs.contracts.outcome.{OutcomeOrd.TheImpl.Laws.{matches_eq-law}}
use Rattle.sci_allowed.specs.{Allowed.{IsAllowed}, Outcome.{IsPlaceWithin, shown_of, written_places}}
use Rattle.sci_outcomes.proofs.{DrawnWorks.{drawn_works}, SeenAllowed.{run_allowed}, ThreadWorks.{thread_works}}
use Rattle.sci_outcomes.specs.{Rows.{AreRowsOf, IsRowOf, has_outcome}, Trials.{AreSeenOf, IsSightingOf, turns_of_run}}
use Rattle.sci_outcomes.specs.declared.{histogram.Row.{Row}, outcome.Sighting.{Sighting}, trials.{Trials.{Trials}, Turns.{Turns, TheVariants.{Drawn, Threads}}}}

first_of : {X : Type 0} (P Q : X → Type 0) (xs : List X) → 1 ≤ length xs → AllByRecursion P xs → AllByRecursion Q xs → (x : X) × P x × Q x
first_of P Q [] some one two = absurd (omega (arith, some))
first_of P Q (x ∷ xs) some one two = (x, one.0, two.0)

module _ (script : ScriptValue) (good : IsScript script) (within : All (IsPlaceWithin script.lines) (written_places script.lines script.operations)) where
  sighting_allowed : (turns : Turns) (issuing : Issuing) (sighting : Sighting) → IsSightingOf script turns issuing sighting
      → IsAllowed script (most_pending issuing) (shown_of sighting.outcome)
  sighting_allowed (Drawn seed) issuing sighting is =
      run_allowed script good issuing is.schedule.events (logs_behind script is.schedule) (last_behind script is.schedule) sighting is.run.enabled
      (λ n lt. drawn_works script issuing (Some seed) is.rounds n is.schedule lt is.played) refl refl (is.run.whole refl) within is.seen
  sighting_allowed Threads issuing sighting is =
      let led = is.led.led in
      let leads = led.leads in
      run_allowed script good issuing led.schedule is.logs is.last sighting led.enabled
      (λ n lt. thread_works MAX_TURNS issuing (λ node. operations_of node script.operations) is.led.core led.schedule n is.driven
      (subst (λ (s : Size). n < s.nodes) (sym led.sized) lt))
      (is.led.logs_are ∙ ap (λ (core : Core). logs_of core) (sym leads)) (is.led.last_are ∙ ap (λ (core : Core). last_of core) (sym leads)) is.whole
      within is.seen

  -- the outcome of a row is that of a sighting
  row_allowed : (trials : Trials) (seen : List Sighting) (row : Row) → AreSeenOf script trials seen → IsRowOf seen row
      → IsAllowed script (most_pending trials.issuing) (shown_of row.outcome)
  row_allowed trials seen row runs is =
      let test = has_outcome row.outcome in
      let Allows = λ (s : Sighting). IsAllowed script (most_pending trials.issuing) (shown_of s.outcome) in
      let all = recursion_from_All Allows seen (λ k d lt. sighting_allowed (turns_of_run trials.turns (k + 0)) trials.issuing _ (runs.each k d lt)) in
      let many = length-filter test seen in
      let counted = is.runs in
      let some = is.some in
      let one = first_of Allows (λ (s : Sighting). test s ≡ true) (filter test seen) (omega (arith, many, counted, some))
      (all-filter Allows test seen all) (all-passes test seen) in
      subst (IsAllowed script (most_pending trials.issuing))
      (sym (same_outcome row.outcome one.0.outcome (matches_eq-law row.outcome one.0.outcome ∙ one.2))) one.1

  pub rows_allowed : (trials : Trials) (seen : List Sighting) (rows : List Row) → AreSeenOf script trials seen → AreRowsOf seen rows
      → All (λ row. IsAllowed script (most_pending trials.issuing) (shown_of row.outcome)) rows
  rows_allowed trials seen rows runs are = λ k d lt. row_allowed trials seen _ runs (are.each k d lt)
