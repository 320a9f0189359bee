use Rattle.std.proofs.Common.{◌≤◌, arith, length}
use Rattle.sci_charts.specs.Rows.{shown_places}
use Rattle.sci_pages.proofs.Paged.{paged_all, paged_more, place_of, reached_step}
use Rattle.sci_pages.proofs.schedule_data.data_of.Goals as goal

pub loop-event-preserved : goal.loop-event-preserved
loop-event-preserved c = grind (arith, place_of, paged_more, reached_step)

pub returns-clause-some : goal.returns-clause-some
returns-clause-some c =
    let events = c.events-event-items.result.now in
    let k = c.loop-event.event-index in
    let end = c.loop-event-test.false in
    let past : length events ≤ k = omega (arith, end) in
    let was = c.loop-event.invariant in
    let done = paged_all _ c.args.request (shown_places c.args.request c.args.schedule.now) c.loop-event.data.items c.loop-event.machine
    c.loop-event.number events k c.loop-event.count past was.paged in
    let few = was.few in
    let long = done.2 in record {
      parts = done.0;
      are_parts = done.1;
      few = omega (arith, few, long);
      written = done.3;
    }
