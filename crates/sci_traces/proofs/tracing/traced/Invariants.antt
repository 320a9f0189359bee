use Rattle.std.proofs.Common.{◌≡◌, ◌+◌, drop}
use Rattle.sci_command.specs.Beginning.{before}
use Rattle.sci_traces.specs.TraceAnswer.{trace_text, trace_outcome}
use Rattle.sci_traces.proofs.Traced.{IsTracedTo}
use Rattle.sci_traces.proofs.tracing.traced.Given as goal

-- the text of the events so far
abbrev pub invariant-loop-event : goal.invariant-loop-event
invariant-loop-event l = record {
  traced : IsTracedTo l.request (trace_text l.request (before l.fn.schedule) 2 l.fn.schedule.events)
      (trace_outcome l.request (before l.fn.schedule) l.fn.schedule.events) l.text.items l.machine l.number (drop l.event-index l.event-items);
  counted : l.number ≡ 2 + l.event-index;
}
