-- A chart that is being drawn.
use Rattle.std.specs.Prelude.{◌≡◌, ℕ, Bool, true, false, List, [], ◌∷◌, ◌++◌, codes, Option, Some, None}
use Rattle.sci_cache.specs.Cache.{Letter, letter_of}
use Rattle.sci_charts.specs.declared.{charting.ChartRequest.{ChartRequest}, mark.Mark.{Mark}}
use Rattle.sci_charts.specs.declared.mark.Mark.TheVariants.{Dead, Issued, Performed, Sent, Taken, Refused}
use Rattle.sci_charts.specs.Rows.{Place, IsRowOf, is_shown}

-- what is asked for, and the text so far
pub record Drawn : Type 0 where
  pub request : ChartRequest
  pub text : List ℕ

-- whether an event isn't enabled, by its mark
abbrev pub is_dead : Mark → Bool
is_dead Dead = true
is_dead Issued = false
is_dead Performed = false
is_dead (Sent packet) = false
is_dead (Taken packet) = false
is_dead (Refused packet) = false

-- what an event sent, by its mark
abbrev pub letter_in : Mark → Option Letter
letter_in Dead = None
letter_in Issued = None
letter_in Performed = None
letter_in (Sent packet) = Some (letter_of packet)
letter_in (Taken packet) = None
letter_in (Refused packet) = None

-- what an event adds to the rows: its row if it is shown, and else nothing
abbrev pub AddsBy : Bool → Place → List ℕ → Type 0
AddsBy true place text = IsRowOf place text
AddsBy false place text = text ≡ []

abbrev pub Adds : ChartRequest → Place → List ℕ → Type 0
Adds request place text = AddsBy (is_shown request place) place text

-- what follows the rows: the end of their last block, and of the chart
abbrev pub chart_end : List ℕ
chart_end = codes "</g>" ++ (10 ∷ [] ++ (codes "</svg>" ++ 10 ∷ []))

-- what every chart begins with
abbrev pub chart_begin : List ℕ
chart_begin = codes "<svg "

-- the chart is an element of SVG that ends with its rows
pub record IsFramed (rows text : List ℕ) : Type 0 where
  pub front : List ℕ
  pub written : text ≡ chart_begin ++ (front ++ (rows ++ chart_end))
