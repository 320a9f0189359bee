-- What `stats --transitions` writes for its input.
use Rattle.std.specs.Prelude.{◌≡◌, ℕ, ◌+◌, Bool, List, [], ◌∷◌, ◌++◌, codes, count_by, filter, Option, if◌then◌else◌}
use Rattle.std.specs.List.{flat_map}
use Rattle.sci_text.specs.{FirstFault.{IsTold}}
use Rattle.sci_text.specs.{Schedule.{ScheduleValue, IsSchedule, schedule_text}, ScheduleFault.{IsScheduleFault}}
use Rattle.sci_command.specs.{declared.outcome.Outcome.{Outcome}, Answer.{IsDoneBy}, Beginning.{before}}
use Rattle.sci_statistics.specs.declared.{coverage.Coverage.{Coverage}, transition.Transition.{Transition}}
use Rattle.sci_statistics.specs.{Coverage.{capped, times}, Meetings.{transitions}, StatsAnswer.{figure_text, figures_text}}
use Rattle.sci_statistics.specs.{PairNames.{has_come, has_never_come, pair_name}, StatsJson.{coverage_json}, Transitions.{is_transition, table}}

-- ---- figures

-- a pair that came, and how often; and one that never did
unfoldable pub count_line : Coverage → Transition → List ℕ
count_line coverage t = figure_text [] (pair_name t, times coverage t)

unfoldable pub never_line : Transition → List ℕ
never_line t = codes "never " ++ (pair_name t ++ 10 ∷ [])

-- how many of some pairs came, and how many never did
unfoldable pub summary_text : Coverage → List Transition → List ℕ
summary_text coverage pairs = figures_text (codes "transitions.")
    ((codes "met", count_by (has_come coverage) pairs) ∷ (codes "never", count_by (has_never_come coverage) pairs) ∷ [])

-- then those that came, with their counts, and then the others
unfoldable pub pairs_text : Coverage → List Transition → List ℕ
pairs_text coverage pairs =
    summary_text coverage pairs
    ++ (flat_map (count_line coverage) (filter (has_come coverage) pairs) ++ flat_map never_line (filter (has_never_come coverage) pairs))

-- the same of the pairs of the tables
abbrev pub coverage_text : Coverage → List ℕ
coverage_text coverage = pairs_text coverage table

-- in lines, or as one JSON object
abbrev pub coverage_shown : Bool → Coverage → List ℕ
coverage_shown json coverage = if json then coverage_json coverage else coverage_text coverage

-- ---- the answer

-- the counts of a schedule's transitions are added to earlier ones
abbrev pub Adds : ScheduleValue → Coverage → Coverage → Type 0
Adds schedule so_far coverage =
    (t : Transition) → times coverage t ≡ capped (times so_far t + count_by (is_transition t) (transitions (before schedule) schedule.events))

-- the bytes are the text of a schedule, and its counts are added
pub record AreAdded (so_far coverage : Coverage) (bytes : List ℕ) : Type 0 where
  pub schedule : ScheduleValue
  pub good : IsSchedule schedule
  pub read : bytes ≡ schedule_text schedule
  pub added : Adds schedule so_far coverage

-- the same, and the counts are written
abbrev pub IsTransitionsOf : Bool → Coverage → List ℕ → List ℕ → Type 0
IsTransitionsOf json so_far input text = (coverage : Coverage) × AreAdded so_far coverage input × (text ≡ coverage_shown json coverage)

-- what `stats --transitions` writes behind earlier schedules, and how it ends, for the bytes of a reader, which has failed or not
abbrev pub IsTransitionsAnswer : Bool → Coverage → Option (List ℕ) → Bool → List ℕ → Outcome → Type 0
IsTransitionsAnswer json so_far = IsDoneBy (IsTransitionsOf json so_far) (IsTold IsScheduleFault)
