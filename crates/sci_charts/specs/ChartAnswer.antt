-- What `chart` writes for its input. How it looks is tested.
use Rattle.std.specs.Prelude.{◌≡◌, ℕ, Bool, List, Option}
use Rattle.sci_text.specs.Schedule.{ScheduleValue, IsSchedule, schedule_text}
use Rattle.sci_command.specs.{declared.outcome.Outcome.{Outcome}, Answer.{IsDoneBy}, AskedLine.{HasLine, IsAskedFault}}
use Rattle.sci_charts.specs.{declared.charting.ChartRequest.{ChartRequest}, Rows.{AreRows, shown_places}}
use Rattle.sci_charts.specs.Drawing.{IsFramed}

-- the chart of a schedule: an element of SVG that ends with one row for each event that is asked for, in order
pub record IsChart (request : ChartRequest) (schedule : ScheduleValue) (text : List ℕ) : Type 0 where
  pub rows : List ℕ
  pub are_rows : AreRows (shown_places request schedule) rows
  pub framed : IsFramed rows text

-- the input is the text of a schedule whose machine has the line that is asked for, and its chart is written
pub record IsChartOf (request : ChartRequest) (input text : List ℕ) : Type 0 where
  pub schedule : ScheduleValue
  pub good : IsSchedule schedule
  pub read : input ≡ schedule_text schedule
  pub has : HasLine request.line schedule
  pub chart : IsChart request schedule text

-- what `chart` writes, and how it ends, for the bytes of a reader, which has failed or not
abbrev pub IsChartAnswer : ChartRequest → Option (List ℕ) → Bool → List ℕ → Outcome → Type 0
IsChartAnswer request = IsDoneBy (IsChartOf request) (IsAskedFault request.line)
