use Rattle.std.proofs.Common.{◌≡◌, ◌+◌, ◌<◌, ◌≤◌, ◌++◌, ℕ, arith, get_or, length, refl, subst, sym, ◌∙◌}
use Rattle.std.proofs.lemmas.Result.{IfOk-weaker}
use Rattle.std.specs.Global.{Vec}
use Rattle.sci_words.specs.declared.{event.Event.{Event, TheVariants.{Issue}}, operation.Act.TheVariants.{Load}}
use Rattle.sci_command.specs.Beginning.{before}
use Rattle.sci_charts.specs.{declared.charting.ChartRequest.{ChartRequest}, Rows.{Place, shown_places}}
use Rattle.sci_charts.specs.{Drawing.{Adds, chart_end}, ChartAnswer.{IsChart}}
use Rattle.sci_charts.proofs.Drawn.{behind_first, behind_more, draws_all, draws_up_to, framed}
use Rattle.sci_charts.proofs.charting.chart_of.Goals as goal

pub loop-event-init : goal.loop-event-init
loop-event-init c =
    let begun : c.in_ok-machine.machine ≡ before c.args.schedule.now =
    c.in_ok-machine.ensures.opening ∙ rw (c.extent.ensures.nodes, c.extent.ensures.lines, c.extent.ensures.slots) refl in record {
      request = c.in_ok-drawing.ensures.request;
      drawn = rw (begun, c.events-event-items.ensures.value)
          (behind_first c.in_ok-drawing.drawing.text c.args.request (before c.args.schedule.now) 2 c.args.schedule.now.events);
      counted = refl;
    }

pub loop-event-preserved : goal.loop-event-preserved
loop-event-preserved c =
    let events = c.events-event-items.result.now in
    let k = c.loop-event.event-index in
    let first : Event = Issue 0 (record { line = 0; word = 0; act = Load }) in
    let test = c.loop-event-test.true in
    let within : k < length events = omega (arith, test) in
    let row = c.in-Ok.ensures.rows in
    let was = c.loop-event.invariant in
    let place : Place = record { core = c.loop-event.machine; number = c.loop-event.number; event = get_or events k first } in
    let adds = subst (λ (request : ChartRequest). Adds request place row.0) was.request row.2 in
    let counted : c.loop-event.number + 1 ≡ 2 + (k + 1) = omega (arith, was.counted) in record {
      request = c.in-Ok.ensures.request ∙ was.request;
      drawn = rw c.in-Ok.ensures.step
          (behind_more _ c.args.request (shown_places c.args.request c.args.schedule.now) c.loop-event.drawing.text _ c.loop-event.machine
          c.loop-event.number events k first row.0 within row.1 adds was.drawn);
      counted = counted;
    }

pub returns-then-is_past : goal.returns-then-is_past
returns-then-is_past c =
    let was = c.loop-event.invariant in
    let rows = draws_up_to c.args.request (shown_places c.args.request c.args.schedule.now) was.drawn.rows c.loop-event.machine
    c.loop-event.number _ (sym c.is_past.ensures ∙ c.if-is_past.true) was.drawn.drawn in
    IfOk-weaker c.finish.result (λ (text : Vec ℕ). text.items ≡ c.loop-event.drawing.text ++ chart_end)
    (λ (text : Vec ℕ). IsChart c.args.request c.args.schedule.now text.items)
    (λ text ended. record {
      rows = was.drawn.rows;
      are_rows = rows;
      framed = framed _ c.in_ok-drawing.ensures.begins _ _ _ was.drawn.written ended;
    }) c.finish.ensures

pub returns : goal.returns
returns c =
    let was = c.loop-event.invariant in
    let events = c.events-event-items.result.now in
    let k = c.loop-event.event-index in
    let end = c.loop-event-test.false in
    let past : length events ≤ k = omega (arith, end) in
    let rows = draws_all c.args.request (shown_places c.args.request c.args.schedule.now) was.drawn.rows c.loop-event.machine c.loop-event.number events k
    past was.drawn.drawn in
    IfOk-weaker c.finish-2.result (λ (text : Vec ℕ). text.items ≡ c.loop-event.drawing.text ++ chart_end)
    (λ (text : Vec ℕ). IsChart c.args.request c.args.schedule.now text.items)
    (λ text ended. record {
      rows = was.drawn.rows;
      are_rows = rows;
      framed = framed _ c.in_ok-drawing.ensures.begins _ _ _ was.drawn.written ended;
    }) c.finish-2.ensures
