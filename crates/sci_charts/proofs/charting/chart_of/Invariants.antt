use Rattle.std.proofs.Common.{◌≡◌, ◌+◌, drop}
use Rattle.sci_charts.specs.Rows.{shown_places}
use Rattle.sci_charts.proofs.Drawn.{IsDrawnBehind}
use Rattle.sci_charts.proofs.charting.chart_of.Given as goal

-- the rows so far
abbrev pub invariant-loop-event : goal.invariant-loop-event
invariant-loop-event l = record {
  request : l.drawing.request ≡ l.request;
  drawn : IsDrawnBehind l.initial.drawing.text l.request (shown_places l.request l.fn.schedule) l.drawing.text l.machine l.number
      (drop l.event-index l.event-items);
  counted : l.number ≡ 2 + l.event-index;
}
