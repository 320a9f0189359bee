use Rattle.std.proofs.Common.{◌≡◌, Option, Some, None, refl, sym, subst, ◌∙◌, inr, arith}
use Rattle.std.proofs.lemmas.{Bool.{ltb-false, ltb-true}, Result.{IfOk-weaker}}
use Rattle.sci_words.specs.declared.event.Event.{Event}
use Rattle.std.specs.Prelude.{IfSome}
use Rattle.sci_random.specs.Drawing.{drawn}
use Rattle.sci_core.specs.Core.{Core, step}
use Rattle.sci_random_schedules.specs.Walking.{IsFirstFound}
use Rattle.sci_random_schedules.proofs.Walks.{drawn_at, draws_begin, draws_first, draws_on, draws_one, found_at, size_then}
use Rattle.sci_random_schedules.proofs.walking.next_event.Goals as goal

pub loop-draw-init : goal.loop-draw-init
loop-draw-init c = record {
  same = refl;
  drawn = λ event later rest. draws_begin c.args.machine.now c.args.random.now c.in_hundred.new.self event later c.in_hundred.ensures.after rest;
}

pub returns-then-in_hundred-clause-next : goal.returns-then-in_hundred-clause-next
returns-then-in_hundred-clause-next c = grind (arith, drawn_at, ltb-true)

pub returns-then-in_hundred-clause-size : goal.returns-then-in_hundred-clause-size
returns-then-in_hundred-clause-size c =
    size_then c.args.machine.now c.args.machine.now _ c.any_event-event.result refl c.extent-extent.ensures.reached c.in_ok-_happened.ensures.step

pub returns-in-Some-clause-next : goal.returns-in-Some-clause-next
returns-in-Some-clause-next c =
    let core = c.args.machine.now in
    let state = c.loop-draw.random in
    let mid = c.any_event-first.new.random in
    let first = c.any_event-first.result in
    let event = c.in-Some.event in
    let drawn_here = drawn_at core _ _ state first mid c.extent-extent.ensures.nodes c.extent-extent.ensures.lines c.any_event-first.ensures.drawn in
    let found = found_at core c.loop-draw.machine first _ (Some event) c.loop-draw.invariant.same c.in-Some.is c.in_ok-event.ensures.found in
    let many = ltb-false (drawn 100 c.args.random.now) c.args.share (sym c.in_hundred.ensures.drawn ∙ c.if-in_hundred.false) in
    inr (many, c.loop-draw.invariant.drawn event mid (draws_one c.loop-draw._draw core state mid first event c.loop-draw-test.true drawn_here found))

pub returns-in-Some-clause-size : goal.returns-in-Some-clause-size
returns-in-Some-clause-size c =
    size_then c.args.machine.now c.loop-draw.machine _ c.in-Some.event c.loop-draw.invariant.same c.extent-extent.ensures.reached
    (subst (λ (found : Option Event). IfSome found (λ event. c.enabled_somewhere.new.machine ≡ step c.loop-draw.machine event)) c.in-Some.is
    c.in_ok-event.ensures.step)

pub loop-draw-preserved : goal.loop-draw-preserved
loop-draw-preserved c =
    let core = c.args.machine.now in
    let state = c.loop-draw.random in
    let mid = c.any_event-first.new.random in
    let first = c.any_event-first.result in
    let drawn_here = drawn_at core _ _ state first mid c.extent-extent.ensures.nodes c.extent-extent.ensures.lines c.any_event-first.ensures.drawn in
    let none = found_at core c.loop-draw.machine first _ None c.loop-draw.invariant.same c.in_default.is c.in_ok-event.ensures.found in
    record {
      same = c.in_ok-event.ensures.same c.in_default.is ∙ c.loop-draw.invariant.same;
      drawn = λ event later rest. c.loop-draw.invariant.drawn event later
          (draws_on c.loop-draw._draw core state mid first event later c.loop-draw-test.true drawn_here none rest);
    }

pub returns-clause-next : goal.returns-clause-next
returns-clause-next c =
    let core = c.args.machine.now in
    let state = c.loop-draw.random in
    let many = ltb-false (drawn 100 c.args.random.now) c.args.share (sym c.in_hundred.ensures.drawn ∙ c.if-in_hundred.false) in
    IfOk-weaker c.first_found.result _ _ (λ event found.
    let here = subst (λ (at : Core). IsFirstFound at event) c.loop-draw.invariant.same found in
    inr (many, c.loop-draw.invariant.drawn event state (draws_first c.loop-draw._draw core state event c.loop-draw-test.false here)))
    c.first_found.ensures.found

pub returns-clause-size : goal.returns-clause-size
returns-clause-size c =
    IfOk-weaker c.first_found.result _ _ (λ event is.
    size_then c.args.machine.now c.loop-draw.machine _ event c.loop-draw.invariant.same c.extent-extent.ensures.reached is) c.first_found.ensures.step
