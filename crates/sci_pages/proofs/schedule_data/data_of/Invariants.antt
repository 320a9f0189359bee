use Rattle.std.proofs.Common.{◌≡◌, ◌+◌, ◌≤◌, drop}
use Rattle.sci_core.specs.Reached.{IsReached}
use Rattle.sci_text.specs.Script.{machine_line}
use Rattle.sci_charts.specs.Rows.{shown_places}
use Rattle.sci_pages.specs.declared.limits.TheConstants.{MAX_PAGE_EVENTS}
use Rattle.sci_pages.proofs.Paged.{IsPagedTo}
use Rattle.sci_pages.proofs.schedule_data.data_of.Given as goal

-- the parts so far
abbrev pub invariant-loop-event : goal.invariant-loop-event
invariant-loop-event l = record {
  paged : IsPagedTo (machine_line l.fn.schedule.nodes l.fn.schedule.lines l.fn.schedule.slots) l.request (shown_places l.request l.fn.schedule) l.data.items
      l.machine l.number (drop l.event-index l.event-items) l.count;
  counted : l.number ≡ 2 + l.event-index;
  few : l.count ≤ MAX_PAGE_EVENTS;
  reached : IsReached l.machine;
}
