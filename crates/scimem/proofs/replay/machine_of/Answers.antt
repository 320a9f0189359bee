-- The events so far stand before what is left of the input, and led the machine here.
use Rattle.std.proofs.{Common.{ℕ, List, [], ap, refl, subst, ◌∙◌}, lemmas.Result.{err_from_is_err_and}}
use Rattle.sci_words.specs.declared.{limits.TheConstants.{MAX_OPERATIONS}, extent.Extent.{Extent}}
use Rattle.sci_core.specs.{Core.{opening}, Size.{size_of}}
use Rattle.sci_text.specs.ScheduleFault.{IsScheduleFault}
use Rattle.sci_text.proofs.EventLines.{first_refuses}
use Rattle.scimem.proofs.ReplayLogs.{led_further, room_for}
use Rattle.scimem.proofs.replay.machine_of.Goals as goal

pub returns-in_err-events-clause-fault : goal.returns-in_err-events-clause-fault
returns-in_err-events-clause-fault c =
    let e = err_from_is_err_and c.from_residual.result c.from_residual.ensures.1 in
    rw (e.1, e.2) (first_refuses c.args.input.now c.in_err-events.field-0.0 c.in_err-events.ensures.fault)

pub loop-machine-init : goal.loop-machine-init
loop-machine-init c = record {
  made = [];
  before = c.in_ok-events.ensures.none;
  text = c.in_ok-events.ensures.text;
  led = c.in_ok-machine.ensures.opening ∙ ap (λ (e : Extent). opening (size_of e MAX_OPERATIONS)) c.extent.ensures;
  are = refl;
  counted = refl;
  few = tt;
}

pub returns-in_err-event-clause-fault : goal.returns-in_err-event-clause-fault
returns-in_err-event-clause-fault c =
    let e = err_from_is_err_and c.from_residual-in_err-event.result c.from_residual-in_err-event.ensures.1 in
    let fault = c.in_err-event.field-0.0 in
    rw (e.1, e.2) (first_refuses c.args.input.now fault
    (subst (λ (l : List ℕ). IsScheduleFault l fault.line fault.kind) c.loop-machine.invariant.text c.in_err-event.ensures.fault))

pub with-dead-requires : goal.with-dead-requires
with-dead-requires c = record {
  room = (
      let next = rw c.in-Some.is at c.in_ok-event.ensures.next in
      room_for c.args.input.now c.loop-machine.events c.next_event.new.self c.loop-machine.machine c.loop-machine.dead c.loop-machine.place c.in-Some.event
      c.loop-machine.invariant next.1);
  few = c.loop-machine.invariant.few;
}

pub loop-machine-preserved : goal.loop-machine-preserved
loop-machine-preserved c =
    let next = rw c.in-Some.is at c.in_ok-event.ensures.next in
    led_further c.args.input.now c.loop-machine.events c.next_event.new.self c.loop-machine.machine c.step.new.self c.loop-machine.dead c.with-dead.result
    c.loop-machine.place c.in-Some.event c.in_ok-step.field-0 c.loop-machine.invariant c.next_event.ensures.text c.next_event.ensures.extent next.1
    c.in_ok-step.ensures.ok c.in_ok-step.ensures.obstacle c.with-dead.ensures.summary c.with-dead.ensures.few
