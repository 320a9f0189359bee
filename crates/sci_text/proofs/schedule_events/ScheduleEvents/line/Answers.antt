-- The line that was read is that of an event, which stands behind those before it.
use Rattle.std.proofs.Common.{◌+◌, ◌<◌, List, [], ◌∷◌, ◌++◌, length, subst, arith, rules}
use Rattle.std.proofs.lemmas.{Bool.Decides.{nat_tests}, Result.{err_from_is_err_and}}
use Rattle.sci_words.specs.declared.event.Event.{Event}
use Rattle.sci_text.specs.{ScheduleEvents.{EventsOf, AreBefore, schedule_with}, FirstFault.{Says}}
use Rattle.sci_text.specs.{Schedule.{event_line}, ScheduleFault.{EventFault}}
use Rattle.sci_text.proofs.{Lines.{said_is, says}, Listings.{line_shrinks, line_unsaid}, Schedules.{schedules}}
use Rattle.sci_text.proofs.{EventLines.{before_more}, schedule_events.ScheduleEvents.line.Goals.{In_ok-event}}
use Rattle.sci_text.proofs.schedule_events.ScheduleEvents.line.Goals as goal

pub returns-in_err-event-clause-fault : goal.returns-in_err-event-clause-fault
returns-in_err-event-clause-fault c =
    let e = err_from_is_err_and c.from_residual.result c.from_residual.ensures.1 in
    let kind = c.in_err-event.field-0.0 in
    rw (e.1, e.2) (subst (λ (e : EventsOf). (events : List Event) → AreBefore events e → EventFault (schedule_with e.extent events) e.rest kind) c.self.view_is
    (λ events before. line_unsaid schedules (schedule_with c.self.inside.extent events) c.self.inside.rest.now c.event_line.result before.good
    c.event_line.ensures kind c.in_err-event.ensures.fault))

-- the line of the event that was read
said : (c : In_ok-event) → Says c.self.inside.rest.now (event_line c.in_ok-event.event)
said c = grind (arith, says, schedules)

pub returns-then-not-is_within-clause-fault : goal.returns-then-not-is_within-clause-fault
returns-then-not-is_within-clause-fault c = grind (arith, said)

pub returns-then-self-clause-fault : goal.returns-then-self-clause-fault
returns-then-self-clause-fault c = grind (arith, said, nat_tests)

pub invariant_of-self : goal.invariant_of-self
invariant_of-self c =
    let i = c.self.inside in
    let e : EventsOf = record { extent = i.extent; text = i.text.now; rest = i.rest.now; count = i.count } in
    let said = said_is schedules.line e.rest c.event_line.result c.event_line.ensures c.in_ok-event.event c.in_ok-event.rest.now c.in_ok-event.ensures.said in
    let so_far = c.self.invariant in (
      so_far.0 ++ c.in_ok-event.event ∷ [],
      before_more e c.in_ok-event.event c.in_ok-event.rest.now said (search rules) c.if-self.false so_far.0 so_far.1,
    )

pub returns-clause-next : goal.returns-clause-next
returns-clause-next c =
    let i = c.self.inside in
    let e : EventsOf = record { extent = i.extent; text = i.text.now; rest = i.rest.now; count = i.count } in
    let rest = c.in_ok-event.rest.now in
    let event = c.in_ok-event.event in
    let said = said_is schedules.line e.rest c.event_line.result c.event_line.ensures event rest c.in_ok-event.ensures.said in
    subst (λ (old : EventsOf). (length rest < length old.rest) × ((events : List Event) → AreBefore events old
    → AreBefore (events ++ event ∷ []) (record e { rest = rest; count = e.count + 1 }))) c.self.view_is
    (line_shrinks schedules event e.rest rest said, before_more e event rest said (search rules) c.if-self.false)
